-- What the lexemes of a text carry is within the limits of its kind.
use Rattle.std.proofs.Common.{ℕ, ◌+◌, ◌^◌, ◌<◌, ◌≤◌, List, [], ◌∷◌, ◌++◌, length, take, drop, Bool, ap, arith}
use Rattle.std.specs.List.{AllByRecursion}
use Rattle.prefix_patterns.specs.BitLists.{length-prefix_bits}
use Rattle.prefix_patterns.specs.Number.{decimal_value}
use Rattle.prefix_patterns.specs.Token.{IsAddress}
use Rattle.prefix_patterns.specs.declared.address.Ip.{Ip}
use Rattle.prefix_patterns.specs.declared.written.WrittenPrefix.{WrittenPrefix}
use Rattle.filter_tokens.specs.Lexemes.{Lexeme, covered, lexeme_of, lexemes}
use Rattle.filter_tokens.specs.Meaning.{Means}
use Rattle.filter_tokens.specs.Tokenization.{AreParts, tokens_among}
use Rattle.filter_tokens.specs.declared.part.Part.{Part}
use Rattle.filter_tokens.specs.declared.part.Part.TheVariants as part
use Rattle.filter_tokens.specs.declared.shape.Shape.{Shape}
use Rattle.filter_tokens.specs.declared.shape.Shape.TheVariants as shape
use Rattle.filter_tokens.specs.declared.token_kind.TokenKind.{TokenKind}
use Rattle.filter_tokens.specs.declared.token_kind.TokenKind.TheVariants as kind

-- a number and an address of four bytes, a prefix of at most 32 bits
abbrev pub IsSmall : Lexeme → Type 0
IsSmall (Lexeme.name text) = Unit {0}
IsSmall (Lexeme.number n) = n < 2 ^ 32
IsSmall (Lexeme.address a) = a < 2 ^ 32
IsSmall (Lexeme.prefix bits) = length bits ≤ 32
IsSmall Lexeme.quote = Unit {0}
IsSmall (Lexeme.symbol m) = Unit {0}

abbrev pub AreSmall : List Lexeme → Type 0
AreSmall lexemes = AllByRecursion IsSmall lexemes

-- both parts of a list
pub parts_of_all : {X : Type 0} (P : X → Type 0) (xs ys : List X) → AllByRecursion P (xs ++ ys) → AllByRecursion P xs × AllByRecursion P ys
parts_of_all P [] ys all = (tt, all)
parts_of_all P (x ∷ xs) ys all = let rest = parts_of_all P xs ys all.1 in ((all.0, rest.0), rest.1)

pub all_of_parts : {X : Type 0} (P : X → Type 0) (xs ys : List X) → AllByRecursion P xs → AllByRecursion P ys → AllByRecursion P (xs ++ ys)
all_of_parts P [] ys a b = b
all_of_parts P (x ∷ xs) ys a b = (a.0, all_of_parts P xs ys a.1 b)

address_small : (text : List ℕ) (address : ℕ) → IsAddress text address → address < 2 ^ 32
address_small text address is =
    let groups = is.groups in
    let fourth = groups.3 in
    omega (arith, is.value, groups.0.1, groups.1.1, groups.2.1, fourth.1)

number_small : (shape : Shape) (bytes : List ℕ) (n : ℕ) → Means shape bytes (kind.Number n) → n < 2 ^ 32
number_small shape.Word bytes n means = absurd means
number_small shape.Decimal bytes n means = omega (arith, means.1)
number_small shape.Hexadecimal bytes n means = omega (arith, means.limit)
number_small shape.Address bytes n means = absurd means
number_small shape.Prefix bytes n means = absurd means
number_small shape.Text bytes n means = absurd means
number_small (shape.Punctuator p) bytes n means = absurd means

means_address : (shape : Shape) (bytes : List ℕ) (a : Ip) → Means shape bytes (kind.Address a) → a.0 < 2 ^ 32
means_address shape.Word bytes a means = absurd means
means_address shape.Decimal bytes a means = absurd means
means_address shape.Hexadecimal bytes a means = absurd means
means_address shape.Address bytes a means = address_small bytes a.0 means
means_address shape.Prefix bytes a means = absurd means
means_address shape.Text bytes a means = absurd means
means_address (shape.Punctuator p) bytes a means = absurd means

prefix_small : (shape : Shape) (bytes : List ℕ) (flag : Bool) (bits : List Bool) → Means shape bytes (kind.Prefix flag bits) → length bits ≤ 32
prefix_small shape.Word bytes flag bits means = absurd means
prefix_small shape.Decimal bytes flag bits means = absurd means
prefix_small shape.Hexadecimal bytes flag bits means = absurd means
prefix_small shape.Address bytes flag bits means = absurd means
prefix_small shape.Prefix bytes flag bits means =
    let limit : decimal_value means.length_text ≤ 32 = means.is_length.1 in
    omega (arith, ap (λ (w : WrittenPrefix). length w.prefix) means.value, length-prefix_bits means.address (decimal_value means.length_text) limit, limit)
prefix_small shape.Text bytes flag bits means = absurd means
prefix_small (shape.Punctuator p) bytes flag bits means = absurd means

lexeme_small : (shape : Shape) (bytes name : List ℕ) (k : TokenKind) → Means shape bytes k → IsSmall (lexeme_of name k)
lexeme_small s bytes name kind.Name means = tt
lexeme_small s bytes name (kind.Number n) means = number_small s bytes n means
lexeme_small s bytes name (kind.Address a) means = means_address s bytes a means
lexeme_small s bytes name (kind.Prefix flag bits) means = prefix_small s bytes flag bits means
lexeme_small s bytes name kind.Text means = tt
lexeme_small s bytes name (kind.Symbol m) means = tt

pub lexemes_small : (whole : List ℕ) (parts : List Part) (at : ℕ) (text : List ℕ) → AreParts parts text
    → AreSmall (lexemes whole (tokens_among parts at))
lexemes_small whole [] at text cut = tt
lexemes_small whole (part.Gap len ∷ parts) at text cut = lexemes_small whole parts (at + len) (drop len text) cut.1
lexemes_small whole (part.Token kind len ∷ parts) at text cut =
    let is = cut.0 in (
      lexeme_small is.shape (take len text) (covered whole (record { word = kind; from = at; to = at + len })) kind is.means,
      lexemes_small whole parts (at + len) (drop len text) cut.1,
    )
