-- When code says of routes just what a filter says. (This project's own choice.)
use Rattle.std.specs.Prelude.{◌≡◌, ℕ}
use Rattle.filter_code.specs.declared.outcome.Outcome.{Outcome}
use Rattle.filter_code.specs.declared.outcome.Outcome.TheVariants as outcome
use Rattle.filter_code.specs.RouteView.{RouteView}
use Rattle.filter_code.specs.Machine.{outcome_of}
use Rattle.filter_code.specs.CodeView as code
use Rattle.filter_compiler.specs.Verdicts.{Verdict, accepted, rejected, meaning}
use Rattle.filter_syntax.specs.SyntaxText as syntax
use Rattle.filter_verifier.specs.Safe.{IsRouteOf}

-- the outcome is what the verdict says: accepted with that metric, or rejected; a fault says nothing
abbrev pub Says : Verdict → Outcome → Type 0
Says verdict (outcome.Accept metric) = verdict ≡ accepted metric
Says verdict outcome.Reject = verdict ≡ rejected
Says verdict (outcome.Fault why at) = ⊥

-- on every route of a size; so none of them is divided by zero, and none meets a full stack
pub record SaysTheSame (filter : syntax.FilterView) (program : code.CodeView) (size : ℕ) : Type 0 where
  pub says : (route : RouteView) → IsRouteOf size route → Says (meaning filter route) (outcome_of program route)
