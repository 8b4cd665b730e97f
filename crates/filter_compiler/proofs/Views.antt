-- What is seen at an attribute with a suffix, at a negation, at a question for a set and at an assignment.
use Rattle.std.proofs.Common.{◌≡◌, ℕ, Box, Global, ap, sym, ◌∙◌}
use Rattle.filter_syntax.specs.Syntax.{ExprView, attribute, member, negation, suffixed, view, view_expr_step, view_members}
use Rattle.filter_syntax.specs.SyntaxCommands.{CommandView, assign, view_command, view_step, view_target}
use Rattle.filter_syntax.specs.declared.tree.command.Command.TheFolds.{fold-roll-Command}
use Rattle.filter_syntax.specs.declared.tree.command.Command.TheOpen.{Command-F}
use Rattle.filter_syntax.specs.declared.tree.command.Command.TheVariants as c
use Rattle.filter_syntax.specs.declared.tree.command.Target.{Target}
use Rattle.filter_syntax.specs.declared.tree.expr.Attribute.{Attribute}
use Rattle.filter_syntax.specs.declared.tree.expr.Expr.{Expr}
use Rattle.filter_syntax.specs.declared.tree.expr.Expr.TheFolds.{fold-roll-Expr}
use Rattle.filter_syntax.specs.declared.tree.expr.Expr.TheOpen.{Expr-F}
use Rattle.filter_syntax.specs.declared.tree.expr.Expr.TheVariants as e
use Rattle.filter_syntax.specs.declared.tree.op.Membership.{Membership}
use Rattle.filter_syntax.specs.declared.tree.op.Suffix.{Suffix}
use Rattle.filter_syntax.specs.declared.tree.set.Set.{Set}

pub view_part : (x : Expr) (at : ℕ) (a : Attribute) (s : Suffix) → x ≡ e.AttributePart at a s → view x ≡ suffixed (attribute a) s
view_part x at a s is =
    ap view (is ∙ sym (e.rolls-AttributePart at a s)) ∙ fold-roll-Expr ExprView view_expr_step (Expr-F.AttributePart at a s)

pub view_not : (x : Expr) (at : ℕ) (inner : Box Expr Global) (y : Expr) → x ≡ e.Not at inner → y ≡ inner.value → view x ≡ negation (view y)
view_not x at inner y is is_inner =
    ap view (is ∙ sym (e.rolls-Not at inner))
    ∙ fold-roll-Expr ExprView view_expr_step (Expr-F.Not at inner)
    ∙ ap (λ z. negation (view z)) (sym is_inner)

pub view_member : (x : Expr) (op : Membership) (left : Box Expr Global) (set : Set) (y : Expr) → x ≡ e.Member op left set
    → y ≡ left.value → view x ≡ member op (view y) (view_members set.members)
view_member x op left set y is is_left =
    ap view (is ∙ sym (e.rolls-Member op left set))
    ∙ fold-roll-Expr ExprView view_expr_step (Expr-F.Member op left set)
    ∙ ap (λ z. member op (view z) (view_members set.members)) (sym is_left)

pub view_assign : (at : ℕ) (target : Target) (value : Expr) → view_command (c.Assign at target value) ≡ assign (view_target target) (view value)
view_assign at target value =
    ap view_command (sym (c.rolls-Assign at target value)) ∙ fold-roll-Command CommandView view_step (Command-F.Assign at target value)
