-- What each command that holds others keeps: the equations of its fold.
use Rattle.std.proofs.Common.{◌≡◌, refl, sym, ap, ◌∙◌, ℕ, List, [], ◌∷◌, ◌++◌, map, Some, None}
use Rattle.std.proofs.lemmas.List.{append-nil}
use Rattle.filter_tokens.specs.Lexemes.{Lexeme, lexeme, lexemes}
use Rattle.filter_tokens.specs.declared.symbol.Symbol.TheVariants as symbols
use Rattle.filter_tokens.specs.declared.token.Token.{Token}
use Rattle.std.specs.Prelude.{Bool, Vec}
use Rattle.std.specs.declared.alloc.Global.{Global}
use Rattle.filter_syntax.specs.declared.tree.command.Command.{Command}
use Rattle.filter_syntax.specs.declared.tree.command.Command.TheFolds.{fold-roll-Command}
use Rattle.filter_syntax.specs.declared.tree.command.Command.TheOpen.{Command-F}
use Rattle.filter_syntax.specs.declared.tree.command.Command.TheVariants as command
use Rattle.filter_syntax.specs.declared.tree.command.Label.{Label}
use Rattle.filter_syntax.specs.declared.tree.command.Target.{Target}
use Rattle.filter_syntax.specs.declared.tree.expr.Expr.{Expr}
use Rattle.filter_syntax.specs.declared.tree.decl.Decl.{Decl}
use Rattle.filter_syntax.specs.Placed.{Kept, AreAt, joined, expr_kept}
use Rattle.filter_syntax.specs.Placed.{ArePlaced, decl_kept, part_kept, part_kept_step, command_kept, command_kept_step, end_kept}

pub kept_block : (at : ℕ) (body : Vec Command Global) → command_kept (command.Block at body) ≡ Some at ∷ (joined (map command_kept body.items) ++ None ∷ [])
kept_block at body = ap command_kept (sym (command.rolls-Block at body)) ∙ fold-roll-Command Kept command_kept_step (Command-F.Block at body)

parts_folded : (f : Label × Vec Command Global → Label × Vec Kept Global)
    → ((p : Label × Vec Command Global) → part_kept_step (f p) ≡ part_kept p) → (parts : List (Label × Vec Command Global))
    → joined (map part_kept_step (map f parts)) ≡ joined (map part_kept parts)
parts_folded f same [] = refl
parts_folded f same (p ∷ parts) = rw (same p, parts_folded f same parts) refl

pub kept_case : (at : ℕ) (argument : Expr) (parts : Vec (Label × Vec Command Global) Global) → command_kept (command.Case at argument parts)
    ≡ Some at ∷ (expr_kept argument ++ None ∷ (joined (map part_kept parts.items) ++ None ∷ []))
kept_case at argument parts =
    ap command_kept (sym (command.rolls-Case at argument parts)) ∙ fold-roll-Command Kept command_kept_step (Command-F.Case at argument parts)
    ∙ ap (λ (k : Kept). Some at ∷ (expr_kept argument ++ None ∷ (k ++ None ∷ []))) (parts_folded _ (λ p. refl) parts.items)

pub kept_assign : (at : ℕ) (target : Target) (value : Expr) → command_kept (command.Assign at target value)
    ≡ Some at ∷ None ∷ (expr_kept value ++ None ∷ [])
kept_assign at target value =
    ap command_kept (sym (command.rolls-Assign at target value)) ∙ fold-roll-Command Kept command_kept_step (Command-F.Assign at target value)

pub kept_accept : (at : ℕ) (has_text : Bool) → command_kept (command.Accept at has_text) ≡ Some at ∷ end_kept has_text
kept_accept at has_text =
    ap command_kept (sym (command.rolls-Accept at has_text)) ∙ fold-roll-Command Kept command_kept_step (Command-F.Accept at has_text)

pub kept_reject : (at : ℕ) (has_text : Bool) → command_kept (command.Reject at has_text) ≡ Some at ∷ end_kept has_text
kept_reject at has_text =
    ap command_kept (sym (command.rolls-Reject at has_text)) ∙ fold-roll-Command Kept command_kept_step (Command-F.Reject at has_text)
