-- What is seen at a chain, at an operand with suffixes and at a `case`.
use Rattle.std.proofs.Common.{◌≡◌, ℕ, Box, Global, List, [], ◌∷◌, Vec, map, refl, ap, sym, ◌∙◌}
use Rattle.filter_syntax.specs.Syntax.{ExprView, chain_of, suffixes_of, view, view_expr_step, view_more}
use Rattle.filter_syntax.specs.declared.tree.expr.Expr.{Expr}
use Rattle.filter_syntax.specs.declared.tree.expr.Expr.TheFolds.{fold-roll-Expr}
use Rattle.filter_syntax.specs.declared.tree.expr.Expr.TheOpen.{Expr-F}
use Rattle.filter_syntax.specs.declared.tree.expr.Expr.TheVariants as e
use Rattle.filter_syntax.specs.declared.tree.op.Op.{Op}
use Rattle.filter_syntax.specs.declared.tree.op.Suffix.{Suffix}
use Rattle.filter_syntax.specs.SyntaxCommands.{CommandView, CommandsView, LabelView, parts_of, view_command, view_part, view_part_step, view_step}
use Rattle.filter_syntax.specs.declared.tree.command.Command.{Command}
use Rattle.filter_syntax.specs.declared.tree.command.Command.TheFolds.{fold-roll-Command}
use Rattle.filter_syntax.specs.declared.tree.command.Command.TheOpen.{Command-F}
use Rattle.filter_syntax.specs.declared.tree.command.Command.TheVariants as command
use Rattle.filter_syntax.specs.declared.tree.command.Label.{Label}

pub view_binary : (x : Expr) (parts : Box (Expr × ℕ × Op × Expr) Global) (y : Expr × ℕ × Op × Expr) → x ≡ e.Binary parts → y ≡ parts.value
    → view x ≡ ExprView.binary y.2 (view y.0) (view y.3)
view_binary x parts y is are =
    ap view (is ∙ sym (e.rolls-Binary parts))
    ∙ fold-roll-Expr ExprView view_expr_step (Expr-F.Binary parts)
    ∙ ap (λ (z : Expr × ℕ × Op × Expr). ExprView.binary z.2 (view z.0) (view z.3)) (sym are)

pub view_grouped : (x : Expr) (at : ℕ) (parts : Box (Expr × ℕ × Op × Expr) Global) (y : Expr × ℕ × Op × Expr) → x ≡ e.GroupedBinary at parts
    → y ≡ parts.value → view x ≡ ExprView.group (ExprView.binary y.2 (view y.0) (view y.3))
view_grouped x at parts y is are =
    ap view (is ∙ sym (e.rolls-GroupedBinary at parts))
    ∙ fold-roll-Expr ExprView view_expr_step (Expr-F.GroupedBinary at parts)
    ∙ ap (λ (z : Expr × ℕ × Op × Expr). ExprView.group (ExprView.binary z.2 (view z.0) (view z.3))) (sym are)

pub view_chain : (x : Expr) (first : Box Expr Global) (more : Vec (ℕ × Op × Expr) Global) (y : Expr) (ys : List (ℕ × Op × Expr))
    → x ≡ e.Chain first more → y ≡ first.value → ys ≡ more.items
    → view x ≡ chain_of (view y) (view_more ys)
view_chain x first more y ys is is_first is_more =
    ap view (is ∙ sym (e.rolls-Chain first more))
    ∙ fold-roll-Expr ExprView view_expr_step (Expr-F.Chain first more)
    ∙ ap (λ z. chain_of (view z) (view_more more.items)) (sym is_first)
    ∙ ap (λ zs. chain_of (view y) (view_more zs)) (sym is_more)

pub view_suffixed : (x : Expr) (inner : Box Expr Global) (suffixes : Vec Suffix Global) (y : Expr) (ys : List Suffix)
    → x ≡ e.Suffixed inner suffixes → y ≡ inner.value → ys ≡ suffixes.items → view x ≡ suffixes_of (view y) ys
view_suffixed x inner suffixes y ys is is_inner is_suffixes =
    ap view (is ∙ sym (e.rolls-Suffixed inner suffixes))
    ∙ fold-roll-Expr ExprView view_expr_step (Expr-F.Suffixed inner suffixes)
    ∙ ap (λ z. suffixes_of (view z) suffixes.items) (sym is_inner)
    ∙ ap (suffixes_of (view y)) (sym is_suffixes)

parts_folded : (f : Label × Vec Command Global → Label × Vec CommandView Global)
    → ((p : Label × Vec Command Global) → view_part_step (f p) ≡ view_part p) → (parts : List (Label × Vec Command Global))
    → map view_part_step (map f parts) ≡ map view_part parts
parts_folded f same [] = refl
parts_folded f same (p ∷ parts) =
    ap (λ x. x ∷ map view_part_step (map f parts)) (same p) ∙ ap (λ (xs : List (LabelView × CommandsView)). view_part p ∷ xs) (parts_folded f same parts)

pub view_case : (x : Command) (at : ℕ) (argument : Expr) (parts : Vec (Label × Vec Command Global) Global) (ys : List (Label × Vec Command Global))
    → x ≡ command.Case at argument parts → ys ≡ parts.items
    → view_command x ≡ CommandView.case (view argument) (parts_of (map view_part ys))
view_case x at argument parts ys is is_parts =
    ap view_command (is ∙ sym (command.rolls-Case at argument parts))
    ∙ fold-roll-Command CommandView view_step (Command-F.Case at argument parts)
    ∙ ap (λ xs. CommandView.case (view argument) (parts_of xs)) (parts_folded _ (λ p. refl) parts.items)
    ∙ ap (λ zs. CommandView.case (view argument) (parts_of (map view_part zs))) (sym is_parts)
