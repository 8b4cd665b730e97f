use Rattle.std.proofs.Common.{◌≡◌}
use Rattle.domain_routes.specs.Still.{least_below, lesser_of_two}
use Rattle.domain_cmds.specs.Texts.{distances}
use Rattle.domain_cmds.proofs.still.still_below.Given as goal

-- the least so far
abbrev pub invariant-loop-u : goal.invariant-loop-u
invariant-loop-u l =
    l.bound ≡ least_below l.size l.u (λ u. lesser_of_two l.size (distances l.size l.most l.v u) (distances l.size l.least l.v u))
