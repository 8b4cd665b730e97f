use Rattle.std.proofs.Common.{◌≡◌, ℕ, ◌<◌, length, map, slice_index_or}
use Rattle.netchange_core.specs.declared.destination.Destination.{Destination}
use Rattle.netchange_core.specs.Best.{neighbour_distance}
use Rattle.netchange_core.specs.Kept.{IsDestination, view_of}
use Rattle.netchange_core.proofs.destination.make_destinations.Given as goal

abbrev pub invariant-loop-node : goal.invariant-loop-node
invariant-loop-node l = record {
  made : length l.destinations.items ≡ l.node;
  right : (v : ℕ) (d : Destination) → v < l.node → IsDestination l.opening v (slice_index_or l.destinations.items v d);
  distances : (v : ℕ) (d : Destination) → v < l.node →
      (slice_index_or l.destinations.items v d).distances.items ≡ map (neighbour_distance l.opening v) (map view_of l.neighbours);
}
