use Rattle.std.proofs.Common.{◌≡◌, [], ◌∷◌}
use Rattle.domain_cmds.specs.Failures.{lists_below}
use Rattle.domain_cmds.specs.Said.{route_report}
use Rattle.domain_cmds.specs.Texts.{route_of}
use Rattle.domain_cmds.proofs.said.table_of.Given as goal

-- the routes to lesser nodes than this
abbrev pub invariant-loop-v : goal.invariant-loop-v
invariant-loop-v l = l.routes.items ≡ lists_below l.v (λ v. route_report (route_of l.size l.all l.u v) ∷ [])
