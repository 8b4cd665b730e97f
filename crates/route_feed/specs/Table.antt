-- The table of a router: where packets go, by prefix. (Which of several nodes with one prefix counts is this project's own choice.)
use Rattle.std.specs.Prelude.{◌≡◌, ℕ, suc, zero, ◌<◌, nat_lt, if◌then◌else◌, Bool, true, false, Option, Some, None, List, [], length, slice_index_or}
use Rattle.std.specs.Bool.{beq}
use Rattle.std.specs.Cmp.Lexicographic.{pointwise}
use Rattle.netchange_core.specs.declared.best_route.BestRoute.{BestRoute}
use Rattle.netchange_core.specs.declared.reply.Via.{Via}
use Rattle.netchange_core.specs.declared.reply.Via.TheVariants.{Local, Node, Nowhere}
use Rattle.netchange_core.specs.Best.{best, route_of}
use Rattle.netchange_core.specs.FilteredDistance.{prefix_of}
use Rattle.netchange_core.specs.World.{World}
use Rattle.route_feed.specs.declared.hop.Hop.{Hop}

-- the nearer of two routes, of equally near ones the first
abbrev pub nearer : BestRoute → BestRoute → BestRoute
nearer one two = if nat_lt two.dist one.dist then two else one

-- the route to the nearest of the nodes below a number that have this prefix, and of equally near ones to the least; nowhere, where none has it
abbrev pub nearest_below : ℕ → (ℕ → List Bool) → (ℕ → BestRoute) → List Bool → ℕ → BestRoute
nearest_below size prefix route p zero = route_of size Nowhere
nearest_below size prefix route p (suc v) =
    if pointwise beq (prefix v) p then nearer (nearest_below size prefix route p v) (route v) else nearest_below size prefix route p v

-- where packets go by a route: to its next hop, if it leads to another node
abbrev pub hop_via : ℕ → Via → Option Hop
hop_via dist Local = None
hop_via dist (Node node) = Some (record { node = node; dist = dist })
hop_via dist Nowhere = None

abbrev pub hop_of : BestRoute → Option Hop
hop_of route = hop_via route.dist route.via

-- Where packets for a prefix go, in a domain of this size whose nodes have these prefixes, by the routes to its nodes: along the route to the
-- nearest node that has the prefix. The router's own node is at distance 0, so packets for its own prefix go nowhere.
abbrev pub table_by : ℕ → (ℕ → List Bool) → (ℕ → BestRoute) → List Bool → Option Hop
table_by size prefix route p = hop_of (nearest_below size prefix route p size)

-- the table of a router
abbrev pub table : World → List Bool → Option Hop
table w p = table_by w.opening.size (prefix_of w.opening) (best w) p

-- whether one of the nodes below a number has this prefix
abbrev pub is_had_below : (ℕ → List Bool) → List Bool → ℕ → Bool
is_had_below prefix p zero = false
is_had_below prefix p (suc v) = if pointwise beq (prefix v) p then true else is_had_below prefix p v

-- lists by node
abbrev pub prefix_at : List (List Bool) → ℕ → List Bool
prefix_at prefixes v = slice_index_or prefixes v []

abbrev pub route_at : List BestRoute → ℕ → BestRoute
route_at routes v = slice_index_or routes v (route_of 0 Nowhere)

abbrev pub hop_at : List (Option Hop) → ℕ → Option Hop
hop_at hops v = slice_index_or hops v None

-- a list that has for each node where packets for its prefix go
pub record AreHops (size : ℕ) (prefix : ℕ → List Bool) (table : List Bool → Option Hop) (hops : List (Option Hop)) : Type 0 where
  pub one_a_node : length hops ≡ size
  pub each : (v : ℕ) → v < size → hop_at hops v ≡ table (prefix v)
