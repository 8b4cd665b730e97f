use Rattle.std.proofs.Common.{◌≡◌}
use Rattle.filter_syntax.specs.Places.{expr_place}
use Rattle.filter_syntax.proofs.tree.expr.Expr.at.Given as goal

-- the part in hand begins where the expression does
abbrev pub invariant-loop-first : goal.invariant-loop-first
invariant-loop-first l = expr_place l.first ≡ expr_place l.self
