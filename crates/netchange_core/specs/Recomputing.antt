-- Routes after one neighbour changed.
use Rattle.std.specs.Prelude.{◌≡◌, ℕ, ◌<◌, ◌==◌, if◌then◌else◌, List, map, slice_index_or, slice_set}
use Rattle.netchange_core.specs.declared.state.State.{State}
use Rattle.netchange_core.specs.declared.destination.Destination.{Destination}
use Rattle.netchange_core.specs.Best.{neighbour_distance}
use Rattle.netchange_core.specs.Kept.{AreDestinations, AreNeighbours, AreTables, distance_by, kept_distance, views_of, world_of}
use Rattle.netchange_core.specs.Next.{count_changes, tell, tell_changes}
use Rattle.netchange_core.specs.OpeningView.{OpeningView}
use Rattle.netchange_core.specs.Present.{ArePresent, sessions_of}
use Rattle.netchange_core.specs.Room.{HaveRoom}
use Rattle.netchange_core.specs.World.{NeighbourView, World, neighbour_at}

-- the distances kept are those that the neighbours give, but for one neighbour's
pub record AreStaleAt (o : OpeningView) (hop : ℕ) (ns : List NeighbourView) (ds : List Destination) : Type 0 where
  pub others : (v : ℕ) (d : Destination) → v < o.size →
      slice_set (slice_index_or ds v d).distances.items hop (neighbour_distance o v (neighbour_at ns hop))
      ≡ map (neighbour_distance o v) ns

-- the neighbours after the distance to a node was told where it changed
abbrev pub told_if_differs : OpeningView → ℕ → ℕ → ℕ → List NeighbourView → List NeighbourView
told_if_differs o v old new ns = if old == new then ns else map (tell o v new) ns

-- all of a state is right but what it keeps of the distances from one neighbour, and there is room to tell all distances
pub record IsStaleAt (hop : ℕ) (s : State) : Type 0 where
  pub node : hop < s.opening.size
  pub neighbours : AreNeighbours s.opening.size (views_of s)
  pub present : ArePresent s.sessions.count (sessions_of (views_of s)) s.sessions.present.items
  pub destinations : AreDestinations s.opening s.destinations.items
  pub stale : AreStaleAt s.opening hop (views_of s) s.destinations.items
  pub room : HaveRoom s.opening.size s.neighbours.items

-- the world of a state, after each distance was told that is another than the one kept; and how many these are
abbrev pub world_told : State → World
world_told s = record (world_of s) {
  neighbours = tell_changes s.opening (kept_distance s.destinations.items) (distance_by s.opening (views_of s)) s.opening.size
      (views_of s);
}

abbrev pub count_told : State → ℕ
count_told s = count_changes (kept_distance s.destinations.items) (distance_by s.opening (views_of s)) s.opening.size

-- a state whose routes were recomputed
pub record Recomputes (old new : State) (count : ℕ) : Type 0 where
  pub tables : AreTables new
  pub told : world_of new ≡ world_told old
  pub count_is : count ≡ count_told old
