-- The options so far were added, and the next one is added too, or it is refused.
use Rattle.std.proofs.Common.{ℕ, ◌+◌, ap, refl}
use Rattle.ncroute.specs.Planning.{name_of}
use Rattle.ncroute.specs.declared.planning.OptionKind.TheVariants.{Filter}
use Rattle.ncroute.proofs.PlanAdded.{none_added, not_added, one_more_added}
use Rattle.ncroute.proofs.planning.add_filters.Goals as goal

pub loop-filter-init : goal.loop-filter-init
loop-filter-init c = record { first = none_added Filter name_of c.args.filters.now c.args.plan.now; at = refl }

pub loop-filter-preserved : goal.loop-filter-preserved
loop-filter-preserved c = record {
  first = one_more_added Filter name_of c.args.filters.now c.loop-filter.filter-index c.filter-item.result c.as_str-name.result.now c.args.plan.now
      c.loop-filter.plan c.add.new.plan c.loop-filter-test.true c.filter-item.is c.as_str-name.ensures.value c.loop-filter.invariant.first c.in-Ok.ensures.added;
  at = ap (λ (n : ℕ). n + 1) c.loop-filter.invariant.at;
}

pub returns-in-Err-clause-refused : goal.returns-in-Err-clause-refused
returns-in-Err-clause-refused c =
    not_added Filter name_of c.args.filters.now c.loop-filter.filter-index c.filter-item.result c.as_str-name.result.now _ c.args.plan.now
    c.loop-filter.plan c.loop-filter-test.true c.filter-item.is c.as_str-name.ensures.value c.loop-filter.invariant.first
    (refl, c.loop-filter.invariant.at, refl, c.in-Err.ensures.refused)
