-- The grammar of filters: which text spells which filter. As in the BIRD 2.0 User's Guide on filters; where declarations
-- may be, the limits, and what is left out are this project's own choice.
use Rattle.std.specs.Prelude.{◌≡◌, ℕ, ◌≤◌, List, [], ◌∷◌, ◌++◌, length, map}
use Rattle.filter_tokens.specs.Tokenization.{IsTokenization}
use Rattle.filter_tokens.specs.Lexemes.{Lexeme, lexemes}
use Rattle.filter_tokens.specs.declared.symbol.Symbol.TheVariants as symbols
use Rattle.filter_tokens.specs.declared.token.Token.{Token}
use Rattle.filter_syntax.specs.declared.tree.filter.Filter.{Filter}
use Rattle.filter_syntax.specs.Syntax.{text_limit}
use Rattle.filter_syntax.specs.Syntax.{nesting_limit}
use Rattle.filter_syntax.specs.SyntaxCommands.{CommandsView, DeclView, FitsCommands, commands_of, spelling_commands}
use Rattle.filter_syntax.specs.SyntaxCommands.{spelling_decls, view_command, view_decl}

-- a filter without its places: name, declarations in their order, commands of the body, and the tokens of its text
pub record FilterView : Type 0 where
  pub name : List ℕ
  pub decls : List DeclView
  pub body : CommandsView
  pub tokens : List Token

-- a filter without its places
abbrev pub view_filter : Filter → FilterView
view_filter f =
    record {
      name = f.name.items;
      decls = map view_decl f.decls.items;
      body = commands_of (map view_command f.body.items);
      tokens = f.tokens.items;
    }

-- `filter name`, declarations, `{`, more declarations, commands, `}`
abbrev pub spelling_filter : List ℕ → List DeclView → List DeclView → CommandsView → List Lexeme
spelling_filter name head inner body =
    Lexeme.symbol symbols.Filter ∷ Lexeme.name name
    ∷ (spelling_decls head ++ Lexeme.symbol symbols.LeftBrace ∷ (spelling_decls inner ++ (spelling_commands body ++ Lexeme.symbol symbols.RightBrace ∷ [])))

-- the filter that a text spells
pub record IsText (text : List ℕ) (filter : FilterView) : Type 0 where
  -- the text has at most this many bytes
  pub size : length text ≤ text_limit
  -- it is cut into the filter's tokens
  pub cut : IsTokenization filter.tokens 0 text
  -- the declarations before the brace, and those at the start of the body
  pub head : List DeclView
  pub inner : List DeclView
  pub declared : filter.decls ≡ head ++ inner
  -- the tokens spell the filter
  pub spelled : lexemes text filter.tokens ≡ spelling_filter filter.name head inner filter.body
  -- the body fits, and is no level of nesting itself
  pub fits : FitsCommands filter.body nesting_limit
