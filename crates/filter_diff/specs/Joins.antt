-- Parts that join.
use Rattle.std.specs.Prelude.{◌≡◌, ◌⊎◌, ℕ, List, All}
use Rattle.filter_code.specs.RouteView.{RouteView}
use Rattle.filter_code.specs.CodeView.{CodeView}
use Rattle.filter_code.specs.declared.outcome.Outcome.TheVariants as outcome
use Rattle.filter_diff.specs.Endings.{outcome_at}
use Rattle.filter_diff.specs.Parts.{Has, Holds, InOne, IsDecided, IsReal, IsTrueOf, is_undecided}
use Rattle.filter_diff.specs.declared.ending.RunEnding.{RunEnding}
use Rattle.filter_diff.specs.declared.route_part.PartFinding.{PartFinding}
use Rattle.filter_diff.specs.declared.route_part.RoutePart.{RoutePart}

-- to end so is to accept each route of a part with the metric that it was received with
abbrev pub KeepsMetric : RoutePart → RunEnding → Type 0
KeepsMetric part end = (route : RouteView) → Has part route → outcome_at route end ≡ outcome.Accept route.metric

-- one ending says the same as another does of the routes of one part, and as a third does of those of another part
pub record IsEndingOfBoth (a b : RoutePart) (first second end : RunEnding) : Type 0 where
  pub in_first : (route : RouteView) → Has a route → outcome_at route first ≡ outcome_at route end
  pub in_second : (route : RouteView) → Has b route → outcome_at route second ≡ outcome_at route end

-- what was found of two parts is true of the routes of both where it is true of each what was found there, and is decided where this is
pub record IsFoundOfBoth (a b : RoutePart) (found : PartFinding) : Type 0 where
  pub in_first : (old new : CodeView) (route : RouteView) → Has a route → Holds old new a.finding route → Holds old new found route
  pub in_second : (old new : CodeView) (route : RouteView) → Has b route → Holds old new b.finding route → Holds old new found route
  pub first_decided : is_undecided a.finding ≡ is_undecided found
  pub second_decided : is_undecided b.finding ≡ is_undecided found

-- a part has just the routes of two others, and what was found of both
pub record Joins (a b whole : RoutePart) : Type 0 where
  pub either : (route : RouteView) → Has whole route → Has a route ⊎ Has b route
  pub first : (route : RouteView) → Has a route → Has whole route
  pub second : (route : RouteView) → Has b route → Has whole route
  pub found : IsFoundOfBoth a b whole.finding
  pub real : (size : ℕ) → IsReal size a → IsReal size b → IsReal size whole

-- parts that stand for others: they have the routes of these, what was found of them is true where that of the others is, and each is
-- decided where each of the others is
pub record StandFor (parts others : List RoutePart) : Type 0 where
  pub routes : (route : RouteView) → InOne route others → InOne route parts
  pub true_of : (old new : CodeView) (size : ℕ) → All (IsTrueOf old new size) others → All (IsTrueOf old new size) parts
  pub real : (size : ℕ) → All (IsReal size) others → All (IsReal size) parts
  pub decided : All IsDecided others → All IsDecided parts
