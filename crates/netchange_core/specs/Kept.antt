-- What the tables keep beside the world.
use Rattle.std.specs.Prelude.{◌≡◌, ℕ, ◌<◌, ◌≤◌, All, IfSome, Option, List, length, map, slice_index, slice_index_or}
use Rattle.std.specs.Option.{option_map}
use Rattle.std.specs.declared.sync.Arc.{Arc}
use Rattle.filter_verifier.specs.VerifiedView.{VerifiedView}
use Rattle.std.specs.declared.alloc.Global.{Global}
use Rattle.netchange_core.specs.declared.best_route.BestRoute.{BestRoute}
use Rattle.netchange_core.specs.declared.destination.Destination.{Destination}
use Rattle.netchange_core.specs.declared.neighbour.Neighbour.{Neighbour}
use Rattle.netchange_core.specs.Best.{best_by, neighbour_distance}
use Rattle.netchange_core.specs.declared.state.State.{State}
use Rattle.netchange_core.specs.OpeningView.{OpeningView}
use Rattle.netchange_core.specs.Present.{ArePresent, sessions_of}
use Rattle.netchange_core.specs.World.{NeighbourView, World}

-- a neighbour as the world has it
abbrev pub view_of : Neighbour → NeighbourView
view_of n = record {
  session = n.session;
  advertised = n.advertised.items;
  imports = option_map (λ f. f.value) n.imports;
  exports = option_map (λ f. f.value) n.exports;
  queue = n.queue.items;
}

-- and all neighbours of a state
abbrev pub views_of : State → List NeighbourView
views_of s = map view_of s.neighbours.items

-- a state as the world that it stands for
abbrev pub world_of : State → World
world_of s = record { opening = s.opening; sessions = s.sessions.count; neighbours = views_of s }

-- the filter behind an optional handle
abbrev pub filter_of : Option (Arc VerifiedView Global) → Option VerifiedView
filter_of filter = option_map (λ f. f.value) filter

-- a filter, if there is one, was verified for this size
abbrev pub FitsSize : ℕ → Option VerifiedView → Type 0
FitsSize size filter = IfSome filter (λ f. f.size ≡ size)

-- a neighbour in a domain of this size: it told a distance for each node, and its filters fit
pub record IsNeighbour (size : ℕ) (n : NeighbourView) : Type 0 where
  pub one_a_node : length n.advertised ≡ size
  pub reachable : (v : ℕ) → slice_index n.advertised v ≤ size
  pub imports : FitsSize size n.imports
  pub exports : FitsSize size n.exports

-- the neighbours of a domain of this size
pub record AreNeighbours (size : ℕ) (ns : List NeighbourView) : Type 0 where
  pub one_a_node : length ns ≡ size
  pub each : All (IsNeighbour size) ns

-- a destination has a distance from each neighbour, and the route that is best by these
pub record IsDestination (o : OpeningView) (v : ℕ) (d : Destination) : Type 0 where
  pub one_a_node : length d.distances.items ≡ o.size
  pub best : d.route ≡ best_by o v d.distances.items

pub record AreDestinations (o : OpeningView) (ds : List Destination) : Type 0 where
  pub one_a_node : length ds ≡ o.size
  pub right : (v : ℕ) (d : Destination) → v < o.size → IsDestination o v (slice_index_or ds v d)

-- what the tables keep: each node stands there as a neighbour and as a destination, and the distances kept there are those
-- that the world gives
pub record AreKept (o : OpeningView) (ns : List NeighbourView) (ds : List Destination) : Type 0 where
  pub neighbours : AreNeighbours o.size ns
  pub destinations : AreDestinations o ds
  pub distances : (v : ℕ) (d : Destination) → v < o.size →
      (slice_index_or ds v d).distances.items ≡ map (neighbour_distance o v) ns

-- a state is right: what it keeps is that, and its list of the present sessions is that of the neighbours
pub record AreTables (s : State) : Type 0 where
  pub kept : AreKept s.opening (views_of s) s.destinations.items
  pub present : ArePresent s.sessions.count (sessions_of (views_of s)) s.sessions.present.items

-- the distances to the nodes, as kept, and as these neighbours give them
abbrev pub kept_distance : List Destination → ℕ → ℕ
kept_distance ds v = slice_index (map (λ d. d.route.dist) ds) v

abbrev pub route_by : OpeningView → List NeighbourView → ℕ → BestRoute
route_by o ns v = best_by o v (map (neighbour_distance o v) ns)

abbrev pub distance_by : OpeningView → List NeighbourView → ℕ → ℕ
distance_by o ns v = (route_by o ns v).dist
