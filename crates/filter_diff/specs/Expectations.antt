-- When the runs of a code end as is expected.
use Rattle.std.specs.Prelude.{◌≡◌, ◌≢◌, ℕ, ◌≤◌}
use Rattle.prefix_patterns.specs.Matching.{Matches}
use Rattle.filter_code.specs.RouteView.{RouteView}
use Rattle.filter_code.specs.CodeView.{CodeView}
use Rattle.filter_code.specs.Machine.{outcome_of}
use Rattle.filter_diff.specs.Endings.{outcome_at}
use Rattle.filter_diff.specs.Parts.{IsIn}
use Rattle.filter_diff.specs.declared.checking.ExpectationResult.{ExpectationResult}
use Rattle.filter_diff.specs.declared.checking.ExpectationResult.TheVariants as checked
use Rattle.filter_diff.specs.declared.checking.Counterexample.{Counterexample}
use Rattle.filter_diff.specs.declared.expectation.Expectation.{Expectation}

-- a route of which something is expected: its prefix matches the pattern, and its metric is in the range
pub record IsCovered (expected : Expectation) (route : RouteView) : Type 0 where
  pub matched : Matches route.net expected.pattern
  pub least : expected.least ≤ route.metric
  pub greatest : route.metric ≤ expected.greatest

-- if something is expected of a route, the run on it ends so
abbrev pub IsMetAt : CodeView → Expectation → RouteView → Type 0
IsMetAt program expected route = IsCovered expected route → outcome_of program route ≡ outcome_at route expected.ending

-- something is expected of a route, and the run on it ends otherwise
pub record IsMissedAt (program : CodeView) (expected : Expectation) (route : RouteView) : Type 0 where
  pub covered : IsCovered expected route
  pub otherwise : outcome_of program route ≢ outcome_at route expected.ending

-- the run ends so on each route of the domain of a size of which something is expected
abbrev pub IsMet : CodeView → ℕ → Expectation → Type 0
IsMet program size expected = (route : RouteView) → IsIn size route → IsMetAt program expected route

-- the route that a counterexample shows
abbrev pub route_of : ℕ → Counterexample → RouteView
route_of size shown = record { net = shown.prefix; metric = shown.metric; size = size }

-- It is a route of the domain of which something is expected, and the run on it ends otherwise.
pub record IsShown (program : CodeView) (size : ℕ) (expected : Expectation) (shown : Counterexample) : Type 0 where
  pub is_in : IsIn size (route_of size shown)
  pub is_covered : IsCovered expected (route_of size shown)
  pub ends : outcome_of program (route_of size shown) ≡ shown.outcome
  pub otherwise : shown.outcome ≢ outcome_at (route_of size shown) expected.ending

-- what is found of an expectation
abbrev pub IsFoundOf : CodeView → ℕ → Expectation → ExpectationResult → Type 0
IsFoundOf program size expected checked.Holds = IsMet program size expected
IsFoundOf program size expected (checked.Fails shown) = IsShown program size expected shown
IsFoundOf program size expected checked.Undecided = Unit {0}
