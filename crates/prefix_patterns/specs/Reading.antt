-- Reading a token from the left: what a text writes, or nothing.
use Rattle.std.specs.Prelude.{ℕ, ◌+◌, ◌==◌, ◌&&◌, if◌then◌else◌, nat_le, Bool, false, List, [], ◌∷◌, take, drop, position, Option}
use Rattle.std.specs.Prelude.{Some, None}
use Rattle.std.specs.Int.{w32, from_be_bytes}
use Rattle.std.specs.Option.{option_map}
use Rattle.std.specs.Str.{all_ascii_digits}
use Rattle.prefix_patterns.specs.Bits.{address_length}
use Rattle.prefix_patterns.specs.Number.{decimal_value}
use Rattle.prefix_patterns.specs.Token.{dot, slash}
use Rattle.prefix_patterns.specs.Written.{written_as}
use Rattle.prefix_patterns.specs.declared.written.WrittenPrefix.{WrittenPrefix}

-- a reading, and another that goes on with its value
infixl 10 ◌>>=◌
abbrev pub ◌>>=◌ : {A B : Type 0} → Option A → (A → Option B) → Option B
None >>= next = None
(Some value) >>= next = next value

-- the text is one or more ASCII digits
abbrev pub is_digits : List ℕ → Bool
is_digits [] = false
is_digits (byte ∷ bytes) = all_ascii_digits (byte ∷ bytes)

-- the number of at most a limit that the text writes
unfoldable pub number_in : ℕ → List ℕ → Option ℕ
number_in most text = if is_digits text && nat_le (decimal_value text) most then Some (decimal_value text) else None

-- the bytes before the first separator, and the bytes after it
unfoldable pub parts_at : ℕ → List ℕ → Option (List ℕ × List ℕ)
parts_at separator text = option_map (λ at. (take at text, drop (at + 1) text)) (position (λ byte. byte == separator) text)

-- the four groups of an address that the text writes
unfoldable pub groups_in : List ℕ → Option (List ℕ)
groups_in text = do
  one ← parts_at dot text
  two ← parts_at dot one.1
  three ← parts_at dot two.1
  first ← number_in 255 one.0
  second ← number_in 255 two.0
  third ← number_in 255 three.0
  fourth ← number_in 255 three.1
  Some (first ∷ second ∷ third ∷ fourth ∷ [])

-- the address that the text writes
unfoldable pub address_in : List ℕ → Option ℕ
address_in text = do
  groups ← groups_in text
  Some (from_be_bytes w32 groups)

-- the prefix that the text writes, and whether its address has host bits
unfoldable pub written_in : List ℕ → Option WrittenPrefix
written_in text = do
  parts ← parts_at slash text
  address ← address_in parts.0
  len ← number_in address_length parts.1
  Some (written_as address len)

-- the same, as its bits alone
unfoldable pub prefix_in : List ℕ → Option (List Bool)
prefix_in text = option_map (λ written. written.prefix) (written_in text)
