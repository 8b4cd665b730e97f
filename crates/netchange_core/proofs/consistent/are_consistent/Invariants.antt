use Rattle.std.proofs.Common.{All, map, take}
use Rattle.netchange_core.specs.Consistent.{IsConsistentNeighbour}
use Rattle.netchange_core.specs.Kept.{view_of}
use Rattle.netchange_core.proofs.consistent.are_consistent.Given as goal

abbrev pub invariant-loop-neighbour : goal.invariant-loop-neighbour
invariant-loop-neighbour l = All (IsConsistentNeighbour l.opening) (map view_of (take l.neighbour-index l.neighbours))
