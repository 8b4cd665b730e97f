-- What is found of a class in the search for a route on which a run does not end as is expected.
use Rattle.std.specs.Prelude.{◌≡◌, ◌≢◌}
use Rattle.filter_code.specs.CodeView.{CodeView}
use Rattle.filter_code.specs.Machine.{outcome_of}
use Rattle.filter_code.specs.RouteView.{RouteView}
use Rattle.filter_diff.specs.Classes.{Always, IsOf}
use Rattle.filter_diff.specs.Endings.{outcome_at}
use Rattle.filter_diff.specs.Expectations.{IsMetAt, IsMissedAt}
use Rattle.filter_diff.specs.Parts.{IsIn}
use Rattle.filter_diff.specs.declared.class.Class.{Class}
use Rattle.filter_diff.specs.declared.ending.RunEnding.{RunEnding}
use Rattle.filter_diff.specs.declared.expectation.Expectation.{Expectation}
use Rattle.filter_diff.specs.declared.found.Found.{Found}
use Rattle.filter_diff.specs.declared.found.Found.TheVariants as found

-- a fact of each route of a class that is in the domain of its size
abbrev pub Throughout : Class → (RouteView → Type 0) → Type 0
Throughout class P = (route : RouteView) → IsIn class.size route → IsOf class route → P route

-- the runs on all routes of a class end so, or none does, if that is found
abbrev pub EndsAs : CodeView → Class → RunEnding → Found → Type 0
EndsAs program class end found.Same = Always class (λ route. outcome_of program route ≡ outcome_at route end)
EndsAs program class end (found.Differ a b) = Always class (λ route. outcome_of program route ≢ outcome_at route end)
EndsAs program class end _ = Unit {0}

-- the runs on all routes of a class of which something is expected end so; or something is expected of each, and no run ends so
abbrev pub SaysMet : CodeView → Class → Expectation → Found → Type 0
SaysMet program class expected found.Same = Throughout class (λ route. IsMetAt program expected route)
SaysMet program class expected (found.Differ a b) = Throughout class (λ route. IsMissedAt program expected route)
SaysMet program class expected _ = Unit {0}
