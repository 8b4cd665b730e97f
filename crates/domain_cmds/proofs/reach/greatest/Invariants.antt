use Rattle.std.proofs.Common.{◌≡◌}
use Rattle.domain_routes.specs.Reach.{greatest_below, greatest_to}
use Rattle.domain_cmds.specs.Texts.{distances}
use Rattle.domain_cmds.proofs.reach.greatest.Given as goal

-- the greatest so far
abbrev pub invariant-loop-v : goal.invariant-loop-v
invariant-loop-v l = l.greatest ≡ greatest_below l.v (λ v. greatest_to l.size l.limit (distances l.size l.all v))
