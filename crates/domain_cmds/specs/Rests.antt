-- All routes of a domain at rest.
use Rattle.std.specs.Prelude.{◌≡◌, ℕ, ◌<◌, List, [], Option, None, Some, length, slice_index_or}
use Rattle.domain_routes.specs.PlanView.{PlanView}
use Rattle.domain_routes.specs.Routes.{AreRoutes}
use Rattle.domain_routes.specs.Still.{BetweenView, HasFewerLinks}
use Rattle.domain_routes.specs.Topology.{topology}
use Rattle.domain_routes.specs.declared.best.Best.{Best}

-- the routes to each destination at rest, by its number
pub record AreAllRoutes (plan : PlanView) (all : List (List Best)) : Type 0 where
  pub one_a_node : length all ≡ plan.size
  pub routes : (v : ℕ) → v < plan.size → AreRoutes (topology plan v) v (slice_index_or all v [])

-- these were the routes to each destination when the plan had the links that it has, and maybe others; filters and prefixes were the same
pub record WereAllRoutes (now : PlanView) (before : List (List Best)) : Type 0 where
  pub whole : PlanView
  pub fewer : HasFewerLinks whole now
  pub all : AreAllRoutes whole before

-- all routes at rest in the two plans between which a plan stayed
pub record RestsView : Type 0 where
  pub most : List (List Best)
  pub least : List (List Best)

-- these are they, where there are such plans
abbrev pub AreRestsBetween : Option BetweenView → Option RestsView → Type 0
AreRestsBetween None None = Unit {0}
AreRestsBetween None (Some rests) = ⊥
AreRestsBetween (Some between) None = ⊥
AreRestsBetween (Some between) (Some rests) = AreAllRoutes between.most rests.most × AreAllRoutes between.least rests.least
