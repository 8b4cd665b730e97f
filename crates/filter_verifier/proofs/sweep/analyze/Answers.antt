use Rattle.std.proofs.Common.{rules, ◌≡◌, ◌<◌, max, Some, length, sym, ◌∙◌, ap, inr, arith}
use Rattle.std.proofs.lemmas.Grind.{common_steps}
use Rattle.filter_verifier.specs.Sweep.{height_of}
use Rattle.filter_verifier.specs.Faults.{fault_place}
use Rattle.filter_verifier.specs.InStates.{in_state}
use Rattle.filter_verifier.specs.Surveys.{top_int}
use Rattle.filter_verifier.proofs.Sweeps.{advanced, begun, refused, state_is}
use Rattle.filter_verifier.specs.declared.fault.VerifyFault.{VerifyFault}
use Rattle.filter_verifier.proofs.Sizes.{not_the_size}
use Rattle.filter_verifier.proofs.Surveys.{known_there}
use Rattle.filter_verifier.proofs.sweep.analyze.Goals as goal

pub loop-at-init : goal.loop-at-init
loop-at-init c = record {
  before = begun c.args.code.now c.args.size c.in_ok-in_states.in_states.items c.in_ok-in_states.ensures.wide
      c.in_ok-in_states.ensures.entry;
  empty = c.new-stack.ensures;
}

pub returns-in-Some-clause-outcome : goal.returns-in-Some-clause-outcome
returns-in-Some-clause-outcome c =
    let inside : c.loop-at.at < length c.args.code.now.instrs = rw (← c.instrs-at-end.ensures.value) c.loop-at-test.true in
    inr (refused c.args.code.now c.args.size c.loop-at.at c.loop-at.in_states.items c.loop-at.depth c.in-Some.fault
    c.loop-at.invariant.before (sym c.in_ok-fault.ensures.refused ∙ c.in-Some.is) inside)

pub returns-in-Some-clause-range : goal.returns-in-Some-clause-range
returns-in-Some-clause-range c =
    let inside : c.loop-at.at < length c.args.code.now.instrs = rw (← c.instrs-at-end.ensures.value) c.loop-at-test.true in
    let within : c.loop-at.at < length c.loop-at.in_states.items = rw c.loop-at.invariant.before.wide inside in
    let known = known_there c.args.code.now c.args.size c.loop-at.at c.loop-at.in_states.items c.loop-at.depth c.in-Some.fault
    c.index-in-loop-at.result.now c.loop-at.invariant.before (sym c.in_ok-fault.ensures.refused ∙ c.in-Some.is)
    (state_is c.loop-at.in_states.items c.loop-at.at c.index-in-loop-at.result.now within c.index-in-loop-at.ensures) in
    c.refused_int-range.ensures (in_state c.args.code.now c.args.size (fault_place c.in-Some.fault))
    (c.top_int-top.ensures ∙ ap top_int known)

pub returns-in-Some-clause-not_the_size : goal.returns-in-Some-clause-not_the_size
returns-in-Some-clause-not_the_size c = λ e.
    let inside : c.loop-at.at < length c.args.code.now.instrs = rw (← c.instrs-at-end.ensures.value) c.loop-at-test.true in
    let found = refused c.args.code.now c.args.size c.loop-at.at c.loop-at.in_states.items c.loop-at.depth
    c.in-Some.fault c.loop-at.invariant.before (sym c.in_ok-fault.ensures.refused ∙ c.in-Some.is) inside in
    not_the_size c.args.code.now c.args.size (length c.args.code.now.instrs) (found ∙ ap (λ (why : VerifyFault). Some why) e)

pub loop-at-preserved : goal.loop-at-preserved
loop-at-preserved c =
    let inside : c.loop-at.at < length c.args.code.now.instrs = rw (← c.instrs-at-end.ensures.value) c.loop-at-test.true in
    let here = state_is c.loop-at.in_states.items c.loop-at.at c.index.result.now (rw c.loop-at.invariant.before.wide inside) c.index.ensures in
    let deeper : c.max-depth.result ≡ max c.loop-at.depth c.height.result = first_of (search rules, grind (arith, common_steps)) in
    record {
      before = rw deeper (advanced c.args.code.now c.args.size c.loop-at.at c.loop-at.in_states.items c.visit.new.in_states.items
          c.loop-at.depth c.height.result c.loop-at.invariant.before
          c.in_ok-fault.ensures.wide (sym c.in_ok-fault.ensures.refused ∙ c.in_default.is) c.in_ok-fault.ensures.propagated
          (c.height.ensures.value ∙ ap height_of here) c.height.ensures.limit);
      empty = c.in_ok-fault.ensures.emptied c.in_default.is;
    }
