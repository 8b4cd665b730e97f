-- Routes that are left after links were cut: the nodes that have these are done, and the others find theirs again.
use Rattle.std.specs.Prelude.{◌≡◌, ◌≢◌, ◌⊎◌, ℕ, ◌<◌, ◌≤◌, Bool, true, List}
use Rattle.netchange_core.specs.declared.reply.Via.{Via}
use Rattle.netchange_core.specs.declared.reply.Via.TheVariants.{Local, Node, Nowhere}
use Rattle.routing_domain.specs.Rest.{Topology}
use Rattle.domain_routes.specs.PlanView.{PlanView, is_linked}
use Rattle.domain_routes.specs.Routes.{own_route, route_at}
use Rattle.domain_routes.specs.Solving.{IsBestSoFar}
use Rattle.domain_routes.specs.declared.best.Best.{Best}

-- a route is left: it leads over a link that there is, to a node that is done, or it is the destination's own, or none
abbrev pub IsLeft : (ℕ → ℕ → Bool) → (ℕ → Bool) → ℕ → Via → Type 0
IsLeft linked done u Local = Unit {0}
IsLeft linked done u (Node w) = (done w ≡ true) × (linked u w ≡ true)
IsLeft linked done u Nowhere = Unit {0}

-- the routes of all nodes that are done are left
abbrev pub AreLeft : PlanView → List Best → (ℕ → Bool) → Type 0
AreLeft plan before done = (u : ℕ) → u < plan.size → done u ≡ true → IsLeft (is_linked plan) done u (route_at plan.size before u).via

-- next hops are nodes
abbrev pub HasHops : ℕ → List Best → Type 0
HasHops size before = (u w : ℕ) → u < size → (route_at size before u).via ≡ Node w → w < size

-- Each node that is done, and each before one, has the best of the ways through nodes that are done. Other than in Dijkstra's order a node that
-- is not done may be nearer than one that is.
pub record AreBestBefore (m : Topology) (to : ℕ) (routes : ℕ → Best) (done : ℕ → Bool) (n : ℕ) : Type 0 where
  pub own : routes to ≡ own_route
  pub bounded : (u : ℕ) → u < m.size → (routes u).dist ≤ m.size
  pub best : (u : ℕ) → u < m.size → u ≢ to → (done u ≡ true) ⊎ (u < n) → IsBestSoFar m routes done u (routes u)
