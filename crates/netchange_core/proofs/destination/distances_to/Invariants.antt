use Rattle.std.proofs.Common.{◌≡◌, map, take}
use Rattle.netchange_core.specs.Best.{neighbour_distance}
use Rattle.netchange_core.specs.Kept.{view_of}
use Rattle.netchange_core.proofs.destination.distances_to.Given as goal

abbrev pub invariant-loop-neighbour : goal.invariant-loop-neighbour
invariant-loop-neighbour l =
    l.distances.items ≡ map (λ n. neighbour_distance l.opening l.node (view_of n)) (take l.neighbour-index l.neighbours)
