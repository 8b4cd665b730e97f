-- The routes to one destination at rest.
use Rattle.std.specs.Prelude.{◌≡◌, ℕ, ◌<◌, List, length, slice_index_or}
use Rattle.netchange_core.specs.declared.reply.Via.TheVariants.{Local, Nowhere}
use Rattle.routing_domain.specs.Rest.{IsRest, Topology}
use Rattle.routing_domain.specs.Ways.{GoesVia}
use Rattle.domain_routes.specs.declared.best.Best.{Best}

-- no route
abbrev pub nowhere : ℕ → Best
nowhere size = record { dist = size; via = Nowhere }

-- the destination's own route
abbrev pub own_route : Best
own_route = record { dist = 0; via = Local }

-- the route of a node
abbrev pub route_at : ℕ → List Best → ℕ → Best
route_at size routes u = slice_index_or routes u (nowhere size)

-- the routes of all nodes at rest, by number
pub record AreRoutes (m : Topology) (to : ℕ) (routes : List Best) : Type 0 where
  pub one_a_node : length routes ≡ m.size
  pub rest : IsRest m to (λ u. (route_at m.size routes u).dist)
  pub vias : (u : ℕ) → u < m.size → GoesVia m to (λ x. (route_at m.size routes x).dist) u (route_at m.size routes u).via
