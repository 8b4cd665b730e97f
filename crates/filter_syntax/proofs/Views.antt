-- What `view` answers at each expression that holds others: the equations of its fold, for the crates above.
use Rattle.std.proofs.Common.{◌≡◌, refl, sym, ap, ◌∙◌, ℕ, List, [], ◌∷◌, ◌++◌, Some, None, map}
use Rattle.std.specs.Prelude.{Box, Vec, Bool}
use Rattle.std.specs.declared.alloc.Global.{Global}
use Rattle.filter_syntax.specs.declared.tree.expr.Attribute.{Attribute}
use Rattle.filter_syntax.specs.declared.tree.expr.Expr.{Expr}
use Rattle.filter_syntax.specs.declared.tree.expr.Expr.TheFolds.{fold-roll-Expr}
use Rattle.filter_syntax.specs.declared.tree.expr.Expr.TheOpen.{Expr-F}
use Rattle.filter_syntax.specs.declared.tree.expr.Expr.TheVariants as e
use Rattle.filter_syntax.specs.declared.tree.op.Membership.{Membership}
use Rattle.filter_syntax.specs.declared.tree.op.Op.{Op}
use Rattle.filter_syntax.specs.declared.tree.op.Suffix.{Suffix}
use Rattle.filter_syntax.specs.declared.tree.set.Set.{Set}
use Rattle.filter_syntax.specs.Syntax.{ExprView, chain_of, suffixes_of, view, view_expr_step, view_members, view_more}
use Rattle.filter_syntax.specs.declared.tree.command.Command.{Command}
use Rattle.filter_syntax.specs.declared.tree.command.Command.TheFolds.{fold-roll-Command}
use Rattle.filter_syntax.specs.declared.tree.command.Command.TheOpen.{Command-F}
use Rattle.filter_syntax.specs.declared.tree.command.Command.TheVariants as command
use Rattle.filter_syntax.specs.declared.tree.command.Label.{Label}
use Rattle.filter_syntax.specs.declared.tree.command.Target.{Target}
use Rattle.filter_syntax.specs.SyntaxCommands.{CommandView, CommandsView, LabelView, commands_of, parts_of, view_command, view_part}
use Rattle.filter_syntax.specs.SyntaxCommands.{view_part_step, view_step, view_target}

-- a chain with one more operator after it
pub chain_more : (left : ExprView) (xs : List (ℕ × Op × ExprView)) (at : ℕ) (op : Op) (right : ExprView) →
    chain_of left (xs ++ ((at, op, right) ∷ [])) ≡ ExprView.binary op (chain_of left xs) right
chain_more left [] at op right = refl
chain_more left (x ∷ xs) at op right = chain_more (ExprView.binary x.1 left x.2) xs at op right

-- one more suffix
pub suffixes_more : (inner : ExprView) (xs : List Suffix) (s : Suffix) →
    suffixes_of inner (xs ++ (s ∷ [])) ≡ ExprView.suffixed (suffixes_of inner xs) s
suffixes_more inner [] s = refl
suffixes_more inner (x ∷ xs) s = suffixes_more (ExprView.suffixed inner x) xs s

-- an expression with another one in a box
pub view_group : (at : ℕ) (inner : Box Expr Global) → view (e.Group at inner) ≡ ExprView.group (view inner.value)
view_group at inner = ap view (sym (e.rolls-Group at inner)) ∙ fold-roll-Expr ExprView view_expr_step (Expr-F.Group at inner)

pub view_not : (at : ℕ) (inner : Box Expr Global) → view (e.Not at inner) ≡ ExprView.negation (view inner.value)
view_not at inner = ap view (sym (e.rolls-Not at inner)) ∙ fold-roll-Expr ExprView view_expr_step (Expr-F.Not at inner)

pub view_chain : (first : Box Expr Global) (more : Vec (ℕ × Op × Expr) Global) →
    view (e.Chain first more) ≡ chain_of (view first.value) (view_more more.items)
view_chain first more = ap view (sym (e.rolls-Chain first more)) ∙ fold-roll-Expr ExprView view_expr_step (Expr-F.Chain first more)

pub view_member : (op : Membership) (left : Box Expr Global) (set : Set) →
    view (e.Member op left set) ≡ ExprView.member op (view left.value) (view_members set.members)
view_member op left set = ap view (sym (e.rolls-Member op left set)) ∙ fold-roll-Expr ExprView view_expr_step (Expr-F.Member op left set)

pub view_suffixed : (inner : Box Expr Global) (suffixes : Vec Suffix Global) →
    view (e.Suffixed inner suffixes) ≡ suffixes_of (view inner.value) suffixes.items
view_suffixed inner suffixes = ap view (sym (e.rolls-Suffixed inner suffixes))
    ∙ fold-roll-Expr ExprView view_expr_step (Expr-F.Suffixed inner suffixes)

pub view_defined : (at : ℕ) (a : Attribute) → view (e.Defined at a) ≡ ExprView.defined a
view_defined at a = ap view (sym (e.rolls-Defined at a)) ∙ fold-roll-Expr ExprView view_expr_step (Expr-F.Defined at a)

-- a block, and an `if` without and with `else`
pub view_block : (at : ℕ) (body : Vec Command Global) → view_command (command.Block at body) ≡ CommandView.block
    (commands_of (map view_command body.items))
view_block at body = ap view_command (sym (command.rolls-Block at body)) ∙ fold-roll-Command CommandView view_step (Command-F.Block at body)

pub view_if : (at : ℕ) (test : Expr) (chosen : Box Command Global) →
    view_command (command.If at test chosen None) ≡ CommandView.if_then (view test) (view_command chosen.value)
view_if at test chosen =
    ap view_command (sym (command.rolls-If at test chosen None)) ∙ fold-roll-Command CommandView view_step (Command-F.If at test chosen None)

pub view_if_else : (at : ℕ) (test : Expr) (chosen other : Box Command Global) →
    view_command (command.If at test chosen (Some other)) ≡ CommandView.if_else (view test) (view_command chosen.value)
    (view_command other.value)
view_if_else at test chosen other =
    ap view_command (sym (command.rolls-If at test chosen (Some other)))
    ∙ fold-roll-Command CommandView view_step (Command-F.If at test chosen (Some other))

-- the parts of a `case`
parts_folded : (f : Label × Vec Command Global → Label × Vec CommandView Global)
    → ((p : Label × Vec Command Global) → view_part_step (f p) ≡ view_part p) → (parts : List (Label × Vec Command Global))
    → map view_part_step (map f parts) ≡ map view_part parts
parts_folded f same [] = refl
parts_folded f same (p ∷ parts) = rw (same p, parts_folded f same parts) refl

pub view_case : (at : ℕ) (argument : Expr) (parts : Vec (Label × Vec Command Global) Global) →
    view_command (command.Case at argument parts) ≡ CommandView.case (view argument) (parts_of (map view_part parts.items))
view_case at argument parts =
    ap view_command (sym (command.rolls-Case at argument parts)) ∙ fold-roll-Command CommandView view_step (Command-F.Case at argument parts)
    ∙ ap (λ (xs : List (LabelView × CommandsView)). CommandView.case (view argument) (parts_of xs)) (parts_folded _ (λ p. refl) parts.items)

pub view_assigned : (at : ℕ) (target : Target) (value : Expr) → view_command (command.Assign at target value)
    ≡ CommandView.assign (view_target target) (view value)
view_assigned at target value =
    ap view_command (sym (command.rolls-Assign at target value)) ∙ fold-roll-Command CommandView view_step (Command-F.Assign at target value)

pub view_accepted : (at : ℕ) (has_text : Bool) → view_command (command.Accept at has_text) ≡ CommandView.accept has_text
view_accepted at has_text =
    ap view_command (sym (command.rolls-Accept at has_text)) ∙ fold-roll-Command CommandView view_step (Command-F.Accept at has_text)

pub view_rejected : (at : ℕ) (has_text : Bool) → view_command (command.Reject at has_text) ≡ CommandView.reject has_text
view_rejected at has_text =
    ap view_command (sym (command.rolls-Reject at has_text)) ∙ fold-roll-Command CommandView view_step (Command-F.Reject at has_text)
