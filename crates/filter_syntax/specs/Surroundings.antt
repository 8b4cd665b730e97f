-- What stands round a place of a text, and the names that the text declares: what is told of a refusal besides its fault. (This
-- project's own choice.)
use Rattle.std.specs.Prelude.{◌≡◌, ⊤, ℕ, ◌+◌, ◌-◌, ◌==◌, ◌&&◌, min, nat_le, nat_lt, if◌then◌else◌, Bool, true}
use Rattle.std.specs.Prelude.{false, List, [], ◌∷◌, Option, Some, None, replicate, slice_get, slice_set, take}
use Rattle.std.specs.List.{prefix_len}
use Rattle.filter_syntax.specs.declared.around.Around.{Around}
use Rattle.filter_syntax.specs.declared.names.Names.{Names}
use Rattle.filter_tokens.specs.declared.symbol.Symbol.{Symbol}
use Rattle.filter_tokens.specs.declared.symbol.Symbol.TheVariants as symbol
use Rattle.filter_tokens.specs.declared.token.Token.{Token}
use Rattle.filter_tokens.specs.declared.token_kind.TokenKind.{TokenKind}
use Rattle.filter_tokens.specs.declared.token_kind.TokenKind.TheVariants as kind

-- how many variables a filter may declare; so many names are kept
abbrev pub variable_limit : ℕ
variable_limit = 16

-- whether a token is the name of a kind, with which a declaration begins
abbrev pub names_kind : Symbol → Bool
names_kind symbol.Int = true
names_kind symbol.Bool = true
names_kind symbol.Ip = true
names_kind symbol.Prefix = true
names_kind other = false

abbrev pub is_kind : TokenKind → Bool
is_kind (kind.Symbol which) = names_kind which
is_kind other = false

-- whether a token is a name
abbrev pub is_name : TokenKind → Bool
is_name kind.Name = true
is_name other = false

-- no names, and their places
abbrev pub no_names : Names
no_names = record { count = 0; places = replicate variable_limit 0 }

abbrev pub places_of : Names → List ℕ
places_of names = take (min names.count variable_limit) names.places

-- names with one more, while there is room
abbrev pub with_name : Names → ℕ → Names
with_name names place =
    if nat_lt names.count variable_limit then record { count = names.count + 1; places = slice_set names.places names.count place } else names

-- where the names begin that tokens declare, each behind the name of its kind, after those that were found before; `after` says
-- whether the name of a kind stands before the first token
abbrev pub names_from : Names → Bool → List Token → Names
names_from names after [] = names
names_from names after (token ∷ tokens) =
    names_from (if after && is_name token.word then with_name names token.from else names) (is_kind token.word) tokens

abbrev pub names_in : List Token → Names
names_in tokens = names_from no_names false tokens

-- how many tokens end at a place or before it
abbrev pub count_before : List Token → ℕ → ℕ
count_before tokens at = prefix_len (λ token. nat_le token.to at) tokens

-- a token, if it begins at a place
abbrev pub begun_at : ℕ → Option Token → Option Token
begun_at at None = None
begun_at at (Some token) = if token.from == at then Some token else None

-- the token so many before the one of an index, if there is one
abbrev pub token_back : List Token → ℕ → ℕ → Option Token
token_back tokens index steps = if nat_le steps index then slice_get tokens (index - steps) else None

-- the token at a place, the last two that end at it or before it, and the names that are declared
abbrev pub around_of : List Token → ℕ → Around
around_of tokens at = record {
  found = begun_at at (slice_get tokens (count_before tokens at));
  last = token_back tokens (count_before tokens at) 1;
  earlier = token_back tokens (count_before tokens at) 2;
  names = names_in tokens;
}

-- that of no text
abbrev pub nothing : Around
nothing = record { found = None; last = None; earlier = None; names = no_names }
