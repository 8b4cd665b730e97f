-- What the bytes of a token look like, whether or not they mean anything, as in the BIRD 2.0 User's Guide on filters.
use Rattle.std.specs.Prelude.{◌≡◌, ◌≢◌, ℕ, Bool, true, ◌||◌, ◌==◌, List, [], ◌∷◌, ◌++◌, All}
use Rattle.std.specs.Char.{is_ascii_digit, is_ascii_hexdigit, is_ascii_alphabetic}
use Rattle.std.specs.List.{join_with_byte}
use Rattle.prefix_patterns.specs.Number.{IsDigits}
use Rattle.prefix_patterns.specs.Token.{dot, slash}
use Rattle.filter_tokens.specs.declared.shape.Shape.{Shape}
use Rattle.filter_tokens.specs.declared.shape.Shape.TheVariants as shape
use Rattle.filter_tokens.specs.Symbols.{symbol_text, is_punctuator}

-- the byte that ends a line
abbrev pub line_feed : ℕ
line_feed = 10

-- `"`, at both ends of a text
abbrev pub quote : ℕ
quote = 34

-- `0`, which begins hexadecimal where a small x follows
abbrev pub zero_digit : ℕ
zero_digit = 48

-- `x`
abbrev pub small_x : ℕ
small_x = 120

-- a word begins with a letter or `_`
abbrev pub begins_word : ℕ → Bool
begins_word byte = is_ascii_alphabetic byte || byte == 95

-- and goes on with letters, `_` and digits
abbrev pub continues_word : ℕ → Bool
continues_word byte = begins_word byte || is_ascii_digit byte

-- a word: a name, a keyword or a word left out
abbrev pub IsWord : List ℕ → Type 0
IsWord [] = ⊥
IsWord (first ∷ others) = (begins_word first ≡ true) × All (λ byte. continues_word byte ≡ true) others

-- the digits after a `0x`, of which there may be none
abbrev pub AreHexadecimal : List ℕ → Type 0
AreHexadecimal digits = All (λ byte. is_ascii_hexdigit byte ≡ true) digits

-- four groups of digits, joined by single dots
pub record HasFourGroups (bytes : List ℕ) : Type 0 where
  pub first : List ℕ
  pub second : List ℕ
  pub third : List ℕ
  pub fourth : List ℕ
  pub groups : IsDigits first × IsDigits second × IsDigits third × IsDigits fourth
  pub spelled : bytes ≡ join_with_byte dot (first ∷ second ∷ third ∷ fourth ∷ [])

-- four groups of digits, a slash and digits
pub record HasLength (bytes : List ℕ) : Type 0 where
  pub address : List ℕ
  pub length_digits : List ℕ
  pub is_address : HasFourGroups address
  pub is_length : IsDigits length_digits
  pub spelled : bytes ≡ address ++ slash ∷ length_digits

-- bytes between double quotes, none of them a double quote or the end of a line
pub record IsQuoted (bytes : List ℕ) : Type 0 where
  pub inner : List ℕ
  pub plain : All (λ byte. (byte ≢ quote) × (byte ≢ line_feed)) inner
  pub spelled : bytes ≡ quote ∷ (inner ++ quote ∷ [])

-- bytes of a shape
abbrev pub HasShape : Shape → List ℕ → Type 0
HasShape shape.Word bytes = IsWord bytes
HasShape shape.Decimal bytes = IsDigits bytes
HasShape shape.Hexadecimal bytes = (digits : List ℕ) × AreHexadecimal digits × (bytes ≡ zero_digit ∷ small_x ∷ digits)
HasShape shape.Address bytes = HasFourGroups bytes
HasShape shape.Prefix bytes = HasLength bytes
HasShape shape.Text bytes = IsQuoted bytes
HasShape (shape.Punctuator punctuator) bytes = (is_punctuator punctuator ≡ true) × (bytes ≡ symbol_text punctuator)
