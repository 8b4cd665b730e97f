-- What holds of a domain's script between any two lines. (This project's own choice.)
use Rattle.std.specs.Prelude.{◌≡◌, ℕ, false, List, IfSome, Option, None, Some}
use Rattle.domain_routes.specs.PlanView.{IsPlan, PlanView}
use Rattle.domain_routes.specs.Still.{BetweenView, StaysBetween}
use Rattle.domain_routes.specs.declared.best.Best.{Best}
use Rattle.domain_cmds.specs.Rests.{AreAllRoutes}
use Rattle.domain_cmds.specs.State.{PlanningView, filter_named}

-- these are all routes of a plan as it was; two plans are noted between which it stayed since, and the plan is what it has become
pub record AreMarked (all : List (List Best)) (between : BetweenView) (plan : PlanView) : Type 0 where
  pub before : PlanView
  pub routes : AreAllRoutes before all
  pub stays : StaysBetween between before plan

-- both are noted at a `mark`, or neither is
abbrev pub AreNoted : Option (List (List Best)) → Option BetweenView → PlanView → Type 0
AreNoted None None plan = Unit {0}
AreNoted None (Some between) plan = ⊥
AreNoted (Some all) None plan = ⊥
AreNoted (Some all) (Some between) plan = AreMarked all between plan

-- The plan is one, and the filters that have a name fit it. Nothing is noted before prefixes stay; and what is noted is of the plan as it was at the
-- last `mark`.
pub record IsMarked (p : PlanningView) : Type 0 where
  pub plan : IsPlan p.plan
  pub filters : (name : List ℕ) → IfSome (filter_named p.filters name) (λ f. f.size ≡ p.plan.size)
  pub unbegun : p.begun ≡ false → p.marked ≡ None
  pub marks : AreNoted p.marked p.since p.plan
