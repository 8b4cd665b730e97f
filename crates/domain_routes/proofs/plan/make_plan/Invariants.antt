use Rattle.std.proofs.Common.{◌≡◌, replicate}
use Rattle.domain_routes.specs.PlanView.{stranger}
use Rattle.domain_routes.proofs.plan.make_plan.Given as goal

abbrev pub invariant-loop : goal.invariant-loop
invariant-loop l = l.rows.items ≡ replicate l.counter (replicate l.size stranger)
