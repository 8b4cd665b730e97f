use Rattle.std.proofs.Common.{◌≡◌, [], ◌∷◌}
use Rattle.netchange_core.specs.FilteredDistance.{filtered_distance}
use Rattle.netchange_core.specs.Kept.{filter_of}
use Rattle.domain_cmds.specs.Failures.{lists_below}
use Rattle.domain_cmds.proofs.said.distances_of.Given as goal

-- what lesser distances than this come to
abbrev pub invariant-loop-dist : goal.invariant-loop-dist
invariant-loop-dist l = l.distances.items ≡ lists_below l.dist (λ dist. filtered_distance l.opening (filter_of l.filter) l.v dist ∷ [])
