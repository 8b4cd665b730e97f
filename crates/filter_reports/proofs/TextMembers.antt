-- The sets of a filter have at most half as many members as its text has bytes.
use Rattle.std.proofs.Common.{ℕ, ◌+◌, ◌*◌, ◌≤◌, List, [], ◌∷◌, ◌++◌, length, drop, ap, arith, length-append, length-drop}
use Rattle.std.proofs.lemmas.List.{length-map}
use Rattle.filter_tokens.proofs.PartLaws.{part-bounds}
use Rattle.filter_tokens.specs.Lexemes.{Lexeme, lexeme}
use Rattle.filter_tokens.specs.Tokenization.{AreParts, tokens_among}
use Rattle.filter_tokens.specs.declared.part.Part.{Part}
use Rattle.filter_tokens.specs.declared.part.Part.TheVariants as part
use Rattle.filter_tokens.specs.declared.symbol.Symbol.TheVariants as symbols
use Rattle.filter_syntax.specs.SyntaxCommands.{CommandsView, DeclView, spelling_commands, spelling_decls}
use Rattle.filter_syntax.specs.SyntaxText.{FilterView, IsText, spelling_filter}
use Rattle.filter_compiler.specs.Translation.{commands_sets}
use Rattle.filter_reports.proofs.SetMembers.{commands_spelled, members}

-- each token has a byte
tokens_few : (parts : List Part) (at : ℕ) (text : List ℕ) → AreParts parts text → length (tokens_among parts at) ≤ length text
tokens_few [] at text cut = omega arith
tokens_few (part.Gap len ∷ parts) at text cut =
    let bounds = part-bounds text (part.Gap len) cut.0 in
    omega (arith, bounds.0, bounds.1, tokens_few parts (at + len) (drop len text) cut.1, length-drop len text)
tokens_few (part.Token kind len ∷ parts) at text cut =
    let bounds = part-bounds text (part.Token kind len) cut.0 in
    omega (arith, bounds.0, bounds.1, tokens_few parts (at + len) (drop len text) cut.1, length-drop len text)

-- the commands are a part of the filter
body_within : (name : List ℕ) (head inner : List DeclView) (body : CommandsView)
    → length (spelling_commands body) ≤ length (spelling_filter name head inner body)
body_within name head inner body =
    let end = spelling_commands body ++ Lexeme.symbol symbols.RightBrace ∷ [] in
    let opened = Lexeme.symbol symbols.LeftBrace ∷ (spelling_decls inner ++ end) in
    omega (
      arith,
      length-append (spelling_commands body) (Lexeme.symbol symbols.RightBrace ∷ []),
      length-append (spelling_decls inner) end,
      length-append (spelling_decls head) opened,
    )

pub members_of_text : (text : List ℕ) (filter : FilterView) → IsText text filter → 2 * members (commands_sets filter.body) ≤ length text
members_of_text text filter h =
    omega (
      arith,
      tokens_few h.cut.parts 0 text h.cut.cut,
      ap length h.cut.among,
      ap length h.spelled,
      length-map filter.tokens (lexeme text),
      body_within filter.name h.head h.inner filter.body,
      commands_spelled filter.body,
    )
