-- Routes of a plan before links of it were cut.
use Rattle.std.specs.Prelude.{ℕ, List}
use Rattle.domain_routes.specs.PlanView.{PlanView}
use Rattle.domain_routes.specs.Routes.{AreRoutes}
use Rattle.domain_routes.specs.Still.{HasFewerLinks}
use Rattle.domain_routes.specs.Topology.{topology}
use Rattle.domain_routes.specs.declared.best.Best.{Best}

-- these were the routes to a destination when the plan had the links that it has, and maybe others; filters and prefixes were the same
pub record WereRoutes (now : PlanView) (v : ℕ) (before : List Best) : Type 0 where
  pub whole : PlanView
  pub fewer : HasFewerLinks whole now
  pub routes : AreRoutes (topology whole v) v before
