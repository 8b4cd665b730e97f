-- The best route to a node, from what the neighbours told. (Tel's Recompute; that a tie goes to the least neighbour is this
-- project's own choice.)
use Rattle.std.specs.Prelude.{ℕ, suc, ◌+◌, min, ◌==◌, nat_lt, if◌then◌else◌, List, [], ◌∷◌, map, slice_index}
use Rattle.netchange_core.specs.declared.best_route.BestRoute.{BestRoute}
use Rattle.netchange_core.specs.declared.reply.Via.{Via}
use Rattle.netchange_core.specs.declared.reply.Via.TheVariants.{Local, Node, Nowhere}
use Rattle.netchange_core.specs.OpeningView.{OpeningView}
use Rattle.netchange_core.specs.FilteredDistance.{filtered_distance}
use Rattle.netchange_core.specs.World.{NeighbourView, World, is_up}

-- Tel's ndis: how far a node is from a neighbour, as it advertised and after the import filter; the size of the domain,
-- which says that there is no way, where the neighbour is down
abbrev pub neighbour_distance : OpeningView → ℕ → NeighbourView → ℕ
neighbour_distance o v n = if is_up n then filtered_distance o n.imports v (slice_index n.advertised v) else o.size

-- the least of a list of numbers and a bound, and where a number stands first
abbrev pub least : ℕ → List ℕ → ℕ
least bound [] = bound
least bound (x ∷ xs) = min x (least bound xs)

abbrev pub first_at : ℕ → List ℕ → ℕ
first_at x [] = 0
first_at x (y ∷ ys) = if y == x then 0 else suc (first_at x ys)

-- a distance, and through whom
abbrev pub route_of : ℕ → Via → BestRoute
route_of dist via = record { dist = dist; via = via }

-- the route through the nearest neighbour, where the neighbours are so far from the node
abbrev pub nearest : ℕ → List ℕ → BestRoute
nearest size distances =
    let d = least size distances in
    if nat_lt (d + 1) size then route_of (d + 1) (Node (first_at d distances)) else route_of size Nowhere

-- the route to a node, where the neighbours are so far from it: a node is at distance 0 from itself
unfoldable pub best_by : OpeningView → ℕ → List ℕ → BestRoute
best_by o v distances = if v == o.me then route_of 0 Local else nearest o.size distances

-- how far a node is from each neighbour
abbrev pub neighbour_distances : World → ℕ → List ℕ
neighbour_distances w v = map (neighbour_distance w.opening v) w.neighbours

-- the best route to a node
abbrev pub best : World → ℕ → BestRoute
best w v = best_by w.opening v (neighbour_distances w v)

-- its distance
abbrev pub distance : World → ℕ → ℕ
distance w v = (best w v).dist
