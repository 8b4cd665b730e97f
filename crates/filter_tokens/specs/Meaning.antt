-- What the bytes of each shape mean, as in the BIRD 2.0 User's Guide on filters; the limits are this project's own choice.
use Rattle.std.specs.Prelude.{◌≡◌, ◌≢◌, ℕ, ◌+◌, ◌*◌, ◌^◌, ◌≤◌, List, [], ◌∷◌, length, All}
use Rattle.std.specs.Char.{digit_value}
use Rattle.prefix_patterns.specs.Number.{decimal_value}
use Rattle.prefix_patterns.specs.Token.{IsAddress}
use Rattle.prefix_patterns.specs.Written.{IsWrittenPrefix}
use Rattle.filter_tokens.specs.declared.symbol.Symbol.{Symbol}
use Rattle.filter_tokens.specs.declared.shape.Shape.{Shape}
use Rattle.filter_tokens.specs.declared.shape.Shape.TheVariants as shape
use Rattle.filter_tokens.specs.declared.token_kind.TokenKind.{TokenKind}
use Rattle.filter_tokens.specs.declared.token_kind.TokenKind.TheVariants as kind
use Rattle.filter_tokens.specs.Symbols.{symbol_text, left_out}
use Rattle.filter_tokens.specs.Shapes.{zero_digit, small_x}

-- the greatest number that a token may write
abbrev pub greatest_number : ℕ
greatest_number = 4294967295

-- the most bytes of a name
abbrev pub longest_name : ℕ
longest_name = 64

-- the number that hexadecimal digits write, each digit times the power of sixteen of its place
unfoldable pub hexadecimal_value : List ℕ → ℕ
hexadecimal_value [] = 0
hexadecimal_value (digit ∷ digits) = digit_value digit * 16 ^ length digits + hexadecimal_value digits

-- a name is a word of at most 64 bytes that is no keyword and is not left out
pub record IsName (bytes : List ℕ) : Type 0 where
  pub limit : length bytes ≤ longest_name
  pub no_keyword : (symbol : Symbol) → bytes ≢ symbol_text symbol
  pub not_left_out : All (λ word. bytes ≢ word) left_out

-- `0x` and digits, one at least, write a number up to the greatest
pub record IsHexadecimal (bytes : List ℕ) (n : ℕ) : Type 0 where
  pub first : ℕ
  pub others : List ℕ
  pub spelled : bytes ≡ zero_digit ∷ small_x ∷ first ∷ others
  pub value : n ≡ hexadecimal_value (first ∷ others)
  pub limit : n ≤ greatest_number

-- the word that bytes of a shape mean; some mean none, as an address with a group over 255, a name of 65 bytes or a `0x` alone
abbrev pub Means : Shape → List ℕ → TokenKind → Type 0
Means shape.Word bytes kind.Name = IsName bytes
Means shape.Word bytes (kind.Symbol keyword) = bytes ≡ symbol_text keyword
Means shape.Decimal bytes (kind.Number n) = (n ≡ decimal_value bytes) × (n ≤ greatest_number)
Means shape.Hexadecimal bytes (kind.Number n) = IsHexadecimal bytes n
Means shape.Address bytes (kind.Address a) = IsAddress bytes a.0
Means shape.Prefix bytes (kind.Prefix has_host_bits prefix) = IsWrittenPrefix bytes (record { prefix = prefix; has_host_bits = has_host_bits })
Means shape.Text bytes kind.Text = Unit {0}
Means (shape.Punctuator punctuator) bytes (kind.Symbol symbol) = punctuator ≡ symbol
Means other bytes kind = ⊥
