-- The lines that tell of routes at rest. (This project's own choice.) `size` is the number of nodes.
use Rattle.std.specs.Prelude.{◌≡◌, MatchBool, ℕ, ◌==◌, nat_lt, Bool, true, false, not, ◌&&◌, if◌then◌else◌, Option, None, Some}
use Rattle.std.specs.Prelude.{List, [], ◌∷◌, ◌++◌, flat_map, slice_index_or, codes, decimal}
use Rattle.netchange_core.specs.declared.reply.Via.{Via}
use Rattle.netchange_core.specs.declared.reply.Via.TheVariants.{Local, Node, Nowhere}
use Rattle.operator_cmds.specs.Looks.{texts_below}
use Rattle.operator_cmds.specs.Replies.{pair_text, via_text}
use Rattle.domain_routes.specs.PlanView.{PlanView, is_linked}
use Rattle.domain_routes.specs.Reach.{longest, phases_to_rest}
use Rattle.domain_routes.specs.Routes.{nowhere}
use Rattle.domain_routes.specs.Still.{one_below}
use Rattle.domain_routes.specs.declared.best.Best.{Best}
use Rattle.domain_cmds.specs.Rests.{RestsView}

-- the route of a node, in a list of the routes of all nodes to one destination
abbrev pub route_in : ℕ → List Best → ℕ → Best
route_in size routes u = slice_index_or routes u (nowhere size)

-- the route of the first node to the second, in a list of the routes to each destination
abbrev pub route_of : ℕ → List (List Best) → ℕ → ℕ → Best
route_of size all u v = route_in size (slice_index_or all v []) u

-- `route D local`, `route D via W`, `route D none`
abbrev pub route_text : Best → List ℕ
route_text route = codes "route " ++ decimal route.dist ++ via_text route.via

-- a node of a path, and a whole path
abbrev pub step_text : ℕ → List ℕ
step_text u = 32 ∷ decimal u

abbrev pub path_text : List ℕ → List ℕ
path_text nodes = codes "path" ++ flat_map step_text nodes

-- these nodes follow one another by next hops: the last is the destination
abbrev pub AreOnTheWay : ℕ → List Best → ℕ → List ℕ → Type 0
AreOnTheWay size routes u [] = (route_in size routes u).via ≡ Local
AreOnTheWay size routes u (w ∷ more) = ((route_in size routes u).via ≡ Node w) × AreOnTheWay size routes w more

-- the nodes on the way from a node, itself first, or none where there is no way
abbrev pub IsPathText : ℕ → List Best → ℕ → List ℕ → Type 0
IsPathText size routes u words = MatchBool (nat_lt (route_in size routes u).dist size)
    ((hops : List ℕ) × AreOnTheWay size routes u hops × (words ≡ path_text (u ∷ hops)))
    (words ≡ codes "path none")

-- the next hop in a table
abbrev pub hop_text : Via → List ℕ
hop_text Local = []
hop_text (Node w) = 58 ∷ decimal w
hop_text Nowhere = []

-- `:D:W`, or `:D` where there is no next hop
abbrev pub far_text : Best → List ℕ
far_text route = 58 ∷ decimal route.dist ++ hop_text route.via

-- `V:D:W`, or `V:D`
abbrev pub row_text : ℕ → Best → List ℕ
row_text v route = step_text v ++ far_text route

abbrev pub rows_text : ℕ → List (List Best) → ℕ → List ℕ
rows_text size all u = texts_below size (λ v. row_text v (route_of size all u v))

abbrev pub table_text : ℕ → List (List Best) → ℕ → List ℕ
table_text size all u = codes "table" ++ rows_text size all u

-- ---- pictures, in the language DOT

-- a node, with its distance where the destination can be reached from it
abbrev pub near_text : ℕ → ℕ → List ℕ
near_text u d = codes " [label=\"" ++ decimal u ++ codes " at " ++ decimal d ++ codes "\"];"

abbrev pub look_text : ℕ → ℕ → Via → List ℕ
look_text u d Local = near_text u d
look_text u d (Node w) = near_text u d
look_text u d Nowhere = codes " [style=dotted];"

abbrev pub node_text : ℕ → Best → List ℕ
node_text u route = 32 ∷ decimal u ++ look_text u route.dist route.via

-- an arrow to the next hop
abbrev pub arrow_text : ℕ → Via → List ℕ
arrow_text u Local = []
arrow_text u (Node w) = 32 ∷ decimal u ++ codes " -> " ++ decimal w ++ codes ";"
arrow_text u Nowhere = []

-- a node is the next hop
abbrev pub is_hop : Via → ℕ → Bool
is_hop Local w = false
is_hop (Node x) w = x == w
is_hop Nowhere w = false

-- a link that no next hop uses in either direction
abbrev pub is_idle : PlanView → List Best → ℕ → ℕ → Bool
is_idle plan routes u w =
    nat_lt u w && is_linked plan u w && not (is_hop (route_in plan.size routes u).via w)
    && not (is_hop (route_in plan.size routes w).via u)

-- a dotted line between two nodes
abbrev pub dotted_text : ℕ → ℕ → List ℕ
dotted_text u w = 32 ∷ decimal u ++ codes " -> " ++ decimal w ++ codes " [dir=none, style=dotted];"

abbrev pub idle_text : PlanView → List Best → ℕ → ℕ → List ℕ
idle_text plan routes u w = if is_idle plan routes u w then dotted_text u w else []

abbrev pub nodes_text : PlanView → List Best → List ℕ
nodes_text plan routes = texts_below plan.size (λ u. node_text u (route_in plan.size routes u))

abbrev pub arrows_text : PlanView → List Best → List ℕ
arrows_text plan routes = texts_below plan.size (λ u. arrow_text u (route_in plan.size routes u).via)

abbrev pub idles_of : PlanView → List Best → ℕ → List ℕ
idles_of plan routes u = texts_below plan.size (idle_text plan routes u)

abbrev pub idles_text : PlanView → List Best → List ℕ
idles_text plan routes = texts_below plan.size (idles_of plan routes)

-- the arrows, and then the links that no next hop uses
abbrev pub links_text : PlanView → List Best → List ℕ
links_text plan routes = arrows_text plan routes ++ idles_text plan routes

abbrev pub body_text : PlanView → List Best → List ℕ
body_text plan routes = nodes_text plan routes ++ links_text plan routes

abbrev pub draw_text : PlanView → List Best → List ℕ
draw_text plan routes = codes "digraph {" ++ body_text plan routes ++ codes " }"

-- ---- changes

abbrev pub is_same_via : Via → Via → Bool
is_same_via Local Local = true
is_same_via (Node w) (Node x) = w == x
is_same_via Nowhere Nowhere = true
is_same_via Local (Node x) = false
is_same_via Local Nowhere = false
is_same_via (Node w) Local = false
is_same_via (Node w) Nowhere = false
is_same_via Nowhere Local = false
is_same_via Nowhere (Node x) = false

-- distance and next hop are the same
abbrev pub is_same : Best → Best → Bool
is_same a b = a.dist == b.dist && is_same_via a.via b.via

-- `U:V` where the route of U to V is another than it was
abbrev pub change_text : ℕ → List (List Best) → List (List Best) → ℕ → ℕ → List ℕ
change_text size before now u v =
    if is_same (route_of size now u v) (route_of size before u v) then [] else pair_text u v

abbrev pub changes_of : ℕ → List (List Best) → List (List Best) → ℕ → List ℕ
changes_of size before now u = texts_below size (change_text size before now u)

abbrev pub all_changes : ℕ → List (List Best) → List (List Best) → List ℕ
all_changes size before now = texts_below size (changes_of size before now)

-- the distances of all routes, by destination and node
abbrev pub distances : ℕ → List (List Best) → ℕ → ℕ → ℕ
distances size all v u = (route_of size all u v).dist

-- Below this bound all distances to a destination are the same in two routings. Where these are those of the two plans between which a plan stayed,
-- none of them changes while that happens.
abbrev pub still_below : ℕ → List (List Best) → List (List Best) → ℕ → ℕ
still_below size most least v = one_below size (distances size most v) (distances size least v)

-- `V:K` where a distance to V may change
abbrev pub still_text : ℕ → List (List Best) → List (List Best) → ℕ → List ℕ
still_text size most least v =
    if nat_lt (still_below size most least v) size then pair_text v (still_below size most least v) else []

-- nothing where nothing was marked
abbrev pub stills_text : ℕ → Option RestsView → List ℕ
stills_text size None = []
stills_text size (Some rests) = codes " still" ++ texts_below size (still_text size rests.most rests.least)

abbrev pub changes_text : ℕ → Option RestsView → List (List Best) → List (List Best) → List ℕ
changes_text size rests before now = codes "changes" ++ all_changes size before now ++ stills_text size rests

-- ---- a picture of what is felt of changes

-- a node keeps its route to a destination meanwhile: it is nearer than the bound, and both plans have its next hop
abbrev pub is_still : ℕ → Option RestsView → ℕ → ℕ → Bool
is_still size None v u = false
is_still size (Some rests) v u =
    nat_lt (route_of size rests.most u v).dist (still_below size rests.most rests.least v)
    && is_same_via (route_of size rests.most u v).via (route_of size rests.least u v).via

-- a node that may not, in red
abbrev pub red_text : ℕ → ℕ → List ℕ
red_text u d = codes " [label=\"" ++ decimal u ++ codes " at " ++ decimal d ++ codes "\", color=red];"

abbrev pub felt_look_text : ℕ → ℕ → Via → List ℕ
felt_look_text u d Local = red_text u d
felt_look_text u d (Node w) = red_text u d
felt_look_text u d Nowhere = codes " [style=dotted, color=red];"

abbrev pub felt_node_text : Bool → ℕ → Best → List ℕ
felt_node_text still u route = if still then node_text u route else 32 ∷ decimal u ++ felt_look_text u route.dist route.via

abbrev pub felt_nodes_text : ℕ → Option RestsView → List (List Best) → ℕ → List ℕ
felt_nodes_text size rests now v = texts_below size (λ u. felt_node_text (is_still size rests v u) u (route_of size now u v))

-- the nodes so, and the links as in each picture
abbrev pub felt_body_text : PlanView → Option RestsView → List (List Best) → ℕ → List Best → List ℕ
felt_body_text plan rests now v routes = felt_nodes_text plan.size rests now v ++ links_text plan routes

abbrev pub felt_text : PlanView → Option RestsView → List (List Best) → ℕ → List Best → List ℕ
felt_text plan rests now v routes = codes "digraph {" ++ felt_body_text plan rests now v routes ++ codes " }"

-- ---- how far, and how soon

abbrev pub reach_text : ℕ → List (List Best) → List ℕ
reach_text size all = codes "reach " ++ decimal (longest size (distances size all)) ++ 32 ∷ decimal (phases_to_rest size (distances size all))

-- ---- settling

abbrev pub settled_text : ℕ → ℕ → List ℕ
settled_text rounds messages = codes "settled " ++ decimal rounds ++ 32 ∷ decimal messages
