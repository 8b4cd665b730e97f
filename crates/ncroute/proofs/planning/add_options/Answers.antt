-- The options so far were added, and the next one is added too, or it is refused.
use Rattle.std.proofs.Common.{ℕ, ◌+◌, ap, refl}
use Rattle.ncroute.specs.Planning.{text_of}
use Rattle.ncroute.proofs.PlanAdded.{none_added, not_added, one_more_added}
use Rattle.ncroute.proofs.planning.add_options.Goals as goal

pub loop-text-init : goal.loop-text-init
loop-text-init c = record { first = none_added c.args.kind text_of c.args.texts.now c.args.plan.now; at = refl }

pub loop-text-preserved : goal.loop-text-preserved
loop-text-preserved c = record {
  first = one_more_added c.args.kind text_of c.args.texts.now c.loop-text.text-index c.text-item.result c.as_str-text.result.now c.args.plan.now
      c.loop-text.plan c.add.new.plan c.loop-text-test.true c.text-item.is c.as_str-text.ensures.value c.loop-text.invariant.first c.in-Ok.ensures.added;
  at = ap (λ (n : ℕ). n + 1) c.loop-text.invariant.at;
}

pub returns-in-Err-clause-refused : goal.returns-in-Err-clause-refused
returns-in-Err-clause-refused c =
    not_added c.args.kind text_of c.args.texts.now c.loop-text.text-index c.text-item.result c.as_str-text.result.now _ c.args.plan.now
    c.loop-text.plan c.loop-text-test.true c.text-item.is c.as_str-text.ensures.value c.loop-text.invariant.first
    (refl, c.loop-text.invariant.at, refl, c.in-Err.ensures.refused)
