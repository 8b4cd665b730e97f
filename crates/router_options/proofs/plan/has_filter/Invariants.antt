use Rattle.std.proofs.Common.{◌≡◌, drop}
use Rattle.router_options.specs.PlanView.{has_filter}
use Rattle.router_options.proofs.plan.has_filter.Given as goal

-- none of the filters so far has the name
abbrev pub invariant-loop-filter : goal.invariant-loop-filter
invariant-loop-filter l = has_filter l.filters l.name ≡ has_filter (drop l.filter-index l.filters) l.name
