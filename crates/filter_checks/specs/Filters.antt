-- What parts of the routes say of two filters. (This project's own choice.)
use Rattle.std.specs.Prelude.{◌≡◌, ◌≢◌, ◌⊎◌, ℕ, List, All}
use Rattle.filter_code.specs.RouteView.{RouteView}
use Rattle.filter_code.specs.declared.outcome.Outcome.{Outcome}
use Rattle.filter_reports.specs.Saying.{Says}
use Rattle.filter_compiler.specs.Verdicts.{meaning}
use Rattle.filter_diff.specs.Endings.{outcome_at}
use Rattle.filter_diff.specs.Parts.{Has, HasRoute, InOne}
use Rattle.filter_diff.specs.declared.route_part.PartFinding.{PartFinding}
use Rattle.filter_diff.specs.declared.route_part.PartFinding.TheVariants as finding
use Rattle.filter_diff.specs.declared.route_part.RoutePart.{RoutePart}
use Rattle.filter_syntax.specs.SyntaxText.{FilterView}
use Rattle.filter_verifier.specs.Safe.{IsRouteOf}

-- two filters say these things of a route, which differ
pub record Disagree (f g : FilterView) (before after : Outcome) (route : RouteView) : Type 0 where
  pub old_says : Says (meaning f route) before
  pub new_says : Says (meaning g route) after
  pub differ : meaning f route ≢ meaning g route

-- a finding holds of what two filters say of a route
abbrev pub HoldsOf : FilterView → FilterView → PartFinding → RouteView → Type 0
HoldsOf f g finding.Undecided route = Unit {0}
HoldsOf f g (finding.Differ before after) route = Disagree f g (outcome_at route before) (outcome_at route after) route

-- of each route in a domain of the size two filters say the same, or it lies in one of the parts; what is found of a part holds of each of
-- its routes, and there is one
pub record ArePartsOf (f g : FilterView) (size : ℕ) (parts : List RoutePart) : Type 0 where
  pub complete : (route : RouteView) → IsRouteOf size route → (meaning f route ≡ meaning g route) ⊎ InOne route parts
  pub sound : All (λ part. (route : RouteView) → IsRouteOf size route → Has part route → HoldsOf f g part.finding route) parts
  pub some : All (HasRoute size) parts
