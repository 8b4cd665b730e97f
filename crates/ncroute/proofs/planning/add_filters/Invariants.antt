use Rattle.std.proofs.Common.{◌≡◌}
use Rattle.ncroute.specs.Planning.{AddsFirst, name_of}
use Rattle.ncroute.specs.declared.planning.OptionKind.TheVariants.{Filter}
use Rattle.ncroute.proofs.planning.add_filters.Given as goal

-- the options so far were added, and are counted
abbrev pub invariant-loop-filter : goal.invariant-loop-filter
invariant-loop-filter l = record {
  first : AddsFirst Filter name_of l.filters l.filter-index l.fn.plan l.plan;
  at : l.at ≡ l.filter-index;
}
