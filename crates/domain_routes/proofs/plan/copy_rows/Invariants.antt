use Rattle.std.proofs.Common.{◌≡◌, ◌++◌, drop}
use Rattle.domain_routes.proofs.plan.copy_rows.Given as goal

-- those so far, and those that are left, are all
abbrev pub invariant-loop-row : goal.invariant-loop-row
invariant-loop-row l = l.copies.items ++ drop l.row-index l.rows ≡ l.rows
