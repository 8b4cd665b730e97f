-- What a text begins with, and the usual spelling of numbers and prefixes. (That more digits than these are unusual is this project's own
-- choice.)
use Rattle.std.specs.Prelude.{◌≡◌, ◌≤◌, ◌==◌, if◌then◌else◌, List, [], ◌∷◌, ℕ, ◌++◌, length, Option, Some, None}
use Rattle.std.specs.Char.{IsAsciiDigit}
use Rattle.std.specs.List.{join_with_byte}
use Rattle.prefix_patterns.specs.Bits.{address_length}
use Rattle.prefix_patterns.specs.Number.{IsDigits, decimal_value}
use Rattle.prefix_patterns.specs.Token.{dot, slash}

-- A text begins with a token that is as wanted, and the rest of it follows.
pub record BeginsWith (IsWanted : List ℕ → Type 0) (text rest : List ℕ) : Type 0 where
  pub token : List ℕ
  pub wanted : IsWanted token
  pub spelled : text ≡ token ++ rest

-- a number in the usual spelling: one to three decimal digits
abbrev pub IsUsualNumber : List ℕ → Type 0
IsUsualNumber text = IsDigits text × (length text ≤ 3)

-- such a number of at most a limit
abbrev pub IsUsualWithin : ℕ → List ℕ → Type 0
IsUsualWithin most text = IsUsualNumber text × (decimal_value text ≤ most)

-- a prefix in the usual spelling: all its numbers are
pub record IsUsualPrefix (text : List ℕ) : Type 0 where
  pub first : List ℕ
  pub second : List ℕ
  pub third : List ℕ
  pub fourth : List ℕ
  pub length_text : List ℕ
  pub groups : IsUsualWithin 255 first × IsUsualWithin 255 second × IsUsualWithin 255 third × IsUsualWithin 255 fourth
  pub is_length : IsUsualWithin address_length length_text
  pub spelled : text ≡ join_with_byte dot (first ∷ second ∷ third ∷ fourth ∷ []) ++ slash ∷ length_text

-- what follows a byte that a text begins with
abbrev pub after_byte : ℕ → List ℕ → Option (List ℕ)
after_byte wanted [] = None
after_byte wanted (byte ∷ rest) = if byte == wanted then Some rest else None

-- the first byte of a text is a digit
abbrev pub BeginsWithDigit : List ℕ → Type 0
BeginsWithDigit [] = ⊥
BeginsWithDigit (byte ∷ rest) = IsAsciiDigit byte
