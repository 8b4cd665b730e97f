-- Worked rows: a text with the filter that it spells, and filters that no text spells.
use Rattle.std.proofs.Common.{◌≡◌, ◌≤◌, ℕ, zero, suc, true, false, List, [], ◌∷◌, refl, lit≤, arith}
use Rattle.std.specs.Prelude.{codes}
use Rattle.filter_tokens.specs.Reading.{punctuator_in, punctuator_shape, longest_shape, keyword_in, is_left_out, word_in, gap_len, token_in, part_in}
use Rattle.filter_tokens.specs.Tokenization.{IsTokenization}
use Rattle.filter_tokens.specs.declared.part.Part.TheVariants as part
use Rattle.filter_tokens.specs.declared.symbol.Symbol.TheVariants as symbol
use Rattle.filter_tokens.specs.declared.token.Token.{Token}
use Rattle.filter_tokens.specs.declared.token_kind.TokenKind.TheVariants as kind
use Rattle.filter_tokens.proofs.Rows.{are_parts}
use Rattle.filter_syntax.specs.Syntax.{ExprView, nesting_limit}
use Rattle.filter_syntax.specs.SyntaxCommands.{CommandView, CommandsView, FitsCommands}
use Rattle.filter_syntax.specs.SyntaxText.{FilterView, IsText}

-- the tokens of `filter a{accept;}`
abbrev tokens : List Token
tokens =
    record { word = kind.Symbol symbol.Filter; from = 0; to = 6 } ∷ record { word = kind.Name; from = 7; to = 8 }
    ∷ record { word = kind.Symbol symbol.LeftBrace; from = 8; to = 9 } ∷ record { word = kind.Symbol symbol.Accept; from = 9; to = 15 }
    ∷ record { word = kind.Symbol symbol.Semicolon; from = 15; to = 16 } ∷ record { word = kind.Symbol symbol.RightBrace; from = 16; to = 17 } ∷ []

cut : IsTokenization tokens 0 (codes "filter a{accept;}")
unfolding part_in gap_len token_in longest_shape punctuator_shape punctuator_in word_in keyword_in is_left_out
cut =
    let parts = part.Token (kind.Symbol symbol.Filter) 6 ∷ part.Gap 1 ∷ part.Token kind.Name 1 ∷ part.Token (kind.Symbol symbol.LeftBrace) 1
    ∷ part.Token (kind.Symbol symbol.Accept) 6 ∷ part.Token (kind.Symbol symbol.Semicolon) 1 ∷ part.Token (kind.Symbol symbol.RightBrace) 1 ∷ [] in
    record { parts = parts; cut = are_parts parts (codes "filter a{accept;}") (refl, (refl, (refl, (refl, (refl, (refl, (refl, refl))))))); among = refl }

-- the filter that takes every route
abbrev of_body : CommandsView → FilterView
of_body body = record { name = codes "a"; decls = []; body = body; tokens = tokens }

pub takes_all : IsText (codes "filter a{accept;}") (of_body (CommandsView.command_then (CommandView.accept false) CommandsView.no_commands))
takes_all = record { size = lit≤ tt; cut = cut; head = []; inner = []; declared = refl; spelled = refl; fits = (tt, tt) }

-- an `else` belongs to the nearest `if`: no text spells one that belongs to an outer `if` whose command ends in an `if`
abbrev outer_else : CommandsView
outer_else =
    let test = ExprView.truth true in
    CommandsView.command_then (CommandView.if_else test (CommandView.if_then test (CommandView.accept false)) (CommandView.reject false))
    CommandsView.no_commands

pub no_outer_else : (text : List ℕ) → IsText text (of_body outer_else) → ⊥
no_outer_else text is = let closed : true ≡ false = is.fits.0.0 in absurd (cc)

-- blocks in blocks, so many
pub nested : ℕ → CommandsView
nested zero = CommandsView.no_commands
nested (suc n) = CommandsView.command_then (CommandView.block (nested n)) CommandsView.no_commands

fits_enough : (n depth : ℕ) → FitsCommands (nested n) depth → n ≤ depth
unfolding nested
fits_enough zero depth fits = omega arith
fits_enough (suc n) zero fits = absurd fits.0
fits_enough (suc n) (suc depth) fits = let below : n ≤ depth = fits_enough n depth fits.0 in omega arith

enough_fits : (n : ℕ) → FitsCommands (nested n) n
unfolding nested
enough_fits zero = tt
enough_fits (suc n) = (enough_fits n, tt)

-- 32 levels fit, and no text spells 33
pub deepest : FitsCommands (nested 32) nesting_limit
deepest = enough_fits 32

pub no_deeper : (text : List ℕ) → IsText text (of_body (nested 33)) → ⊥
no_deeper text is = let few : 33 ≤ 32 = fits_enough 33 32 is.fits in absurd (omega arith)
