-- What tokens say to the grammar: their words, with the bytes of each name, and without their places.
use Rattle.std.specs.Prelude.{ℕ, ◌-◌, Bool, List, map, take, drop}
use Rattle.filter_tokens.specs.declared.symbol.Symbol.{Symbol}
use Rattle.filter_tokens.specs.declared.token.Token.{Token}
use Rattle.filter_tokens.specs.declared.token_kind.TokenKind.{TokenKind}
use Rattle.filter_tokens.specs.declared.token_kind.TokenKind.TheVariants as kind

-- a name with its bytes, a number, an address, a prefix as its bits, a text in quotes, a keyword or punctuator
pub data Lexeme : Type 0 where
  name : (text : List ℕ) → Lexeme
  number : (n : ℕ) → Lexeme
  address : (a : ℕ) → Lexeme
  prefix : (bits : List Bool) → Lexeme
  quote : Lexeme
  symbol : (m : Symbol) → Lexeme

-- the bytes of a text that a token covers
abbrev pub covered : List ℕ → Token → List ℕ
covered text token = take (token.to - token.from) (drop token.from text)

-- what a word is to the grammar, where the token covers these bytes
abbrev pub lexeme_of : List ℕ → TokenKind → Lexeme
lexeme_of bytes kind.Name = name bytes
lexeme_of bytes (kind.Number n) = number n
lexeme_of bytes (kind.Address a) = address a.0
lexeme_of bytes (kind.Prefix has_host_bits bits) = prefix bits
lexeme_of bytes kind.Text = quote
lexeme_of bytes (kind.Symbol m) = symbol m

-- what a token of the text is to the grammar
abbrev pub lexeme : List ℕ → Token → Lexeme
lexeme text token = lexeme_of (covered text token) token.word

-- the lexemes of a text that is cut into these tokens
abbrev pub lexemes : List ℕ → List Token → List Lexeme
lexemes text tokens = map (lexeme text) tokens
