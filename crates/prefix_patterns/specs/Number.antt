-- Numbers in decimal text.
use Rattle.std.specs.Prelude.{ℕ, ◌+◌, ◌-◌, ◌*◌, ◌^◌, ◌<◌, ◌≤◌, List, [], ◌∷◌, length, All}
use Rattle.std.specs.Char.{IsAsciiDigit}

-- one or more ASCII digits
pub record IsDigits (text : List ℕ) : Type 0 where
  pub some : 0 < length text
  pub each : All IsAsciiDigit text

-- the number that digits write, each digit times the power of ten of its place
unfoldable pub decimal_value : List ℕ → ℕ
decimal_value [] = 0
decimal_value (digit ∷ digits) = (digit - 48) * 10 ^ length digits + decimal_value digits

-- the text of a number of at most a limit: any count of digits, and of zeros before them
abbrev pub IsNumber : ℕ → List ℕ → Type 0
IsNumber most text = IsDigits text × (decimal_value text ≤ most)
