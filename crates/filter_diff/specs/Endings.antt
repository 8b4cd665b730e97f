-- How runs of a class of routes end.
use Rattle.filter_code.specs.RouteView.{RouteView}
use Rattle.filter_code.specs.declared.outcome.Outcome.{Outcome}
use Rattle.filter_code.specs.declared.outcome.Outcome.TheVariants as outcome
use Rattle.filter_diff.specs.declared.ending.RunEnding.{RunEnding}
use Rattle.filter_diff.specs.declared.ending.RunEnding.TheVariants as ending

-- the outcome at a route: accepted with the metric received, or one that is the same at each
abbrev pub outcome_at : RouteView → RunEnding → Outcome
outcome_at route ending.Unchanged = outcome.Accept route.metric
outcome_at route (ending.Fixed end) = end
