use Rattle.std.proofs.Common.{◌≡◌, replicate}
use Rattle.domain_routes.specs.PlanView.{stranger}
use Rattle.domain_routes.proofs.row.Row.strangers.Given as goal

abbrev pub invariant-loop : goal.invariant-loop
invariant-loop l = l.peers.items ≡ replicate l.counter stranger
