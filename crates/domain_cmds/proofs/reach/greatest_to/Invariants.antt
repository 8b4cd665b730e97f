use Rattle.std.proofs.Common.{◌≡◌}
use Rattle.domain_routes.specs.Reach.{counted, greatest_below}
use Rattle.domain_cmds.specs.Texts.{distances}
use Rattle.domain_cmds.proofs.reach.greatest_to.Given as goal

-- the greatest so far
abbrev pub invariant-loop-u : goal.invariant-loop-u
invariant-loop-u l = l.greatest ≡ greatest_below l.u (λ u. counted l.limit (distances l.size l.all l.v u))
