-- What words of a configuration are, and which text is written for them.
use Rattle.std.specs.Prelude.{◌≡◌, ◌≤◌, ℕ, List}
use Rattle.bird_import.specs.Alike.{AreAlike}
use Rattle.filter_syntax.specs.SyntaxText.{FilterView, IsText}
use Rattle.filter_tokens.specs.Lexemes.{covered}
use Rattle.filter_tokens.specs.declared.token.Token.{Token}
use Rattle.filter_tokens.specs.declared.token_kind.TokenKind.{TokenKind}
use Rattle.filter_tokens.specs.declared.token_kind.TokenKind.TheVariants as token
use Rattle.bird_import.specs.declared.word.Word.{Word}
use Rattle.bird_import.specs.declared.word.WordKind.{WordKind}
use Rattle.bird_import.specs.declared.word.WordKind.TheVariants as kind

-- what a token of the filter language is among the words of a configuration
abbrev pub kind_of : TokenKind → WordKind
kind_of token.Name = kind.Name
kind_of (token.Number n) = kind.Number
kind_of (token.Address a) = kind.Address a.0
kind_of (token.Prefix has_host_bits prefix) = kind.Prefix
kind_of token.Text = kind.Text
kind_of (token.Symbol symbol) = kind.Symbol symbol

-- a token lies in a text of so many bytes
pub record LiesIn (length : ℕ) (token : Token) : Type 0 where
  pub order : token.from ≤ token.to
  pub within : token.to ≤ length

-- a token of a text is a word: it is of the word's kind, and has its bytes
pub record IsSpelled (text : List ℕ) (token : Token) (word : Word) : Type 0 where
  pub alike : word.kind ≡ kind_of token.word
  pub bytes : word.bytes.now ≡ covered text token

-- A text is written for some words: it spells a filter, and its tokens are these words, one by one.
pub record IsWritten (words : List Word) (text : List ℕ) : Type 0 where
  pub filter : FilterView
  pub spells : IsText text filter
  pub same : AreAlike (IsSpelled text) filter.tokens words
