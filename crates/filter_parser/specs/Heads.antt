-- The name with which a command begins whose `=` is missing: `acept` of `acept;` could be a variable, so the text is refused after it, and
-- the fault names it. (This project's own choice.)
use Rattle.std.specs.Prelude.{◌≡◌, ◌⊎◌, ⊤, ℕ, nat_le, if◌then◌else◌, List, [], ◌∷◌, Option, Some, None, length}
use Rattle.expression_parser.specs.declared.expected.Expected.{Expected}
use Rattle.expression_parser.specs.declared.expected.Expected.TheVariants as expected
use Rattle.expression_parser.specs.declared.fault.ParseFault.{ParseFault}
use Rattle.expression_parser.specs.declared.fault.ParseFault.TheVariants as fault
use Rattle.filter_tokens.specs.Tokenization.{AreInOrder, IsTokenization, StopsAt}
use Rattle.filter_tokens.specs.declared.token.Token.{Token}
use Rattle.filter_tokens.specs.declared.token_kind.TokenKind.{TokenKind}
use Rattle.filter_tokens.specs.declared.token_kind.TokenKind.TheVariants as kind

-- the tokens of a text, up to its end or to the byte from which on it has none
abbrev pub AreTokensOf : List ℕ → List Token → Type 0
AreTokensOf text tokens =
    AreInOrder 0 tokens (length text) × (IsTokenization tokens 0 text ⊎ ((place : ℕ) × StopsAt tokens place text))

-- where a token of this kind begins, if it is a name
abbrev pub named : TokenKind → Token → Option ℕ
named kind.Name token = Some token.from
named other token = None

-- where the last of the tokens begins that end at a byte or before it, if it is a name; where there are none, what was found before
abbrev pub name_before : ℕ → Option ℕ → List Token → Option ℕ
name_before at found [] = found
name_before at found (token ∷ tokens) = name_before at (if nat_le token.to at then named token.word token else found) tokens

-- a missing `=` at a byte, by the name before it
abbrev pub missing_at : ℕ → Option ℕ → ParseFault
missing_at at None = fault.Unexpected at expected.Assign
missing_at at (Some name) = fault.MissingAssign at name

-- a fault at a byte where this was expected, with the name before it where that is a `=`
abbrev pub expected_with_head : List Token → ℕ → Expected → ParseFault
expected_with_head tokens at expected.Assign = missing_at at (name_before at None tokens)
expected_with_head tokens at wanted = fault.Unexpected at wanted

-- the same of any fault
abbrev pub with_head : List Token → ParseFault → ParseFault
with_head tokens (fault.Unexpected at wanted) = expected_with_head tokens at wanted
with_head tokens (fault.MissingAssign at name) = missing_at at (name_before at None tokens)
with_head tokens why = why

-- this is the place of the name before a byte of a text, if the last token before it is one
abbrev pub IsNameBefore : List ℕ → ℕ → Option ℕ → Type 0
IsNameBefore text at name = (tokens : List Token) × AreTokensOf text tokens × (name ≡ name_before at None tokens)

-- where a `=` is expected, no name is before it
abbrev pub IsNoHead : List ℕ → ℕ → Expected → Type 0
IsNoHead text at expected.Assign = IsNameBefore text at None
IsNoHead text at wanted = ⊤

-- a fault of a missing `=` has the place of the name before it, if there is one
abbrev pub HasHead : List ℕ → ParseFault → Type 0
HasHead text (fault.MissingAssign at name) = IsNameBefore text at (Some name)
HasHead text (fault.Unexpected at wanted) = IsNoHead text at wanted
HasHead text why = ⊤
