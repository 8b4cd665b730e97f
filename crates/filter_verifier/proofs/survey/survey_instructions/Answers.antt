use Rattle.std.proofs.Common.{rules, ◌≡◌, ◌<◌, max, length, sym, ◌∙◌, ap, arith}
use Rattle.std.proofs.lemmas.Grind.{common_steps}
use Rattle.filter_verifier.specs.Sweep.{height_of}
use Rattle.filter_verifier.specs.Faults.{fault_place}
use Rattle.filter_verifier.specs.InStates.{in_state}
use Rattle.filter_verifier.specs.Surveys.{top_int}
use Rattle.filter_verifier.proofs.Sweeps.{state_is}
use Rattle.filter_verifier.proofs.Sweeps as sweep
use Rattle.filter_verifier.proofs.Surveys.{advanced, begun, kept_all, known_there, reached}
use Rattle.filter_verifier.proofs.survey.survey_instructions.Goals as goal

pub loop-at-init : goal.loop-at-init
loop-at-init c = record {
  kept = begun c.args.code.now c.args.size c.in_ok-waiting.waiting.items c.new-in_states.result.items
      (sweep.begun c.args.code.now c.args.size c.in_ok-waiting.waiting.items c.in_ok-waiting.ensures.wide c.in_ok-waiting.ensures.entry)
      c.new-in_states.ensures.items;
  empty = c.new-stack.ensures;
}

pub returns-in-Some-clause-known : goal.returns-in-Some-clause-known
returns-in-Some-clause-known c =
    let inside : c.loop-at.at < length c.args.code.now.instrs = rw (← c.instrs-at-end.ensures.value) c.loop-at-test.true in
    let here = state_is c.loop-at.waiting.items c.loop-at.at c.index-in-loop-at.result.now (rw c.loop-at.invariant.kept.before.wide inside) c.index-in-loop-at.ensures in
    rw c.in_ok-push.ensures.items (kept_all c.args.code.now c.args.size c.loop-at.at c.loop-at.waiting.items c.loop-at.in_states.items
    c.loop-at.depth c.in_ok-copy.field-0 c.loop-at.invariant.kept (c.in_ok-copy.ensures ∙ here))

pub returns-in-Some-clause-verdict : goal.returns-in-Some-clause-verdict
returns-in-Some-clause-verdict c =
    let inside : c.loop-at.at < length c.args.code.now.instrs = rw (← c.instrs-at-end.ensures.value) c.loop-at-test.true in
    sweep.refused c.args.code.now c.args.size c.loop-at.at c.loop-at.waiting.items c.loop-at.depth c.in-Some.fault
    c.loop-at.invariant.kept.before (sym c.in_ok-fault.ensures.refused ∙ c.in-Some.is) inside

pub returns-in-Some-clause-range : goal.returns-in-Some-clause-range
returns-in-Some-clause-range c =
    let inside : c.loop-at.at < length c.args.code.now.instrs = rw (← c.instrs-at-end.ensures.value) c.loop-at-test.true in
    let within : c.loop-at.at < length c.loop-at.waiting.items = rw c.loop-at.invariant.kept.before.wide inside in
    let known = known_there c.args.code.now c.args.size c.loop-at.at c.loop-at.waiting.items c.loop-at.depth c.in-Some.fault
    c.index-in-loop-at-2.result.now c.loop-at.invariant.kept.before (sym c.in_ok-fault.ensures.refused ∙ c.in-Some.is)
    (state_is c.loop-at.waiting.items c.loop-at.at c.index-in-loop-at-2.result.now within c.index-in-loop-at-2.ensures) in
    c.refused_int-range.ensures (in_state c.args.code.now c.args.size (fault_place c.in-Some.fault))
    (c.top_int-top.ensures ∙ ap top_int known)

pub returns-in-Some-clause-reach : goal.returns-in-Some-clause-reach
returns-in-Some-clause-reach c =
    let inside : c.loop-at.at < length c.args.code.now.instrs = rw (← c.instrs-at-end.ensures.value) c.loop-at-test.true in
    rw c.in_ok-push.ensures.items (reached c.args.code.now c.args.size c.loop-at.at c.loop-at.waiting.items c.loop-at.in_states.items
    c.loop-at.depth c.in_ok-copy.field-0 c.in-Some.fault c.loop-at.invariant.kept (sym c.in_ok-fault.ensures.refused ∙ c.in-Some.is) inside)

pub loop-at-preserved : goal.loop-at-preserved
loop-at-preserved c =
    let inside : c.loop-at.at < length c.args.code.now.instrs = rw (← c.instrs-at-end.ensures.value) c.loop-at-test.true in
    let before = c.loop-at.invariant.kept.before in
    let within : c.loop-at.at < length c.loop-at.waiting.items = rw before.wide inside in
    let here = state_is c.loop-at.waiting.items c.loop-at.at c.index.result.now within c.index.ensures in
    let copied = state_is c.loop-at.waiting.items c.loop-at.at c.index-in-loop-at.result.now within c.index-in-loop-at.ensures in
    let deeper : c.max-depth.result ≡ max c.loop-at.depth c.height.result = first_of (search rules, grind (arith, common_steps)) in
    record {
      kept = rw (c.in_ok-push.ensures.items, deeper) (advanced c.args.code.now c.args.size c.loop-at.at c.loop-at.waiting.items
          c.visit.new.in_states.items c.loop-at.in_states.items c.loop-at.depth (max c.loop-at.depth c.height.result) c.in_ok-copy.field-0
          c.loop-at.invariant.kept (c.in_ok-copy.ensures ∙ copied)
          (sweep.advanced c.args.code.now c.args.size c.loop-at.at c.loop-at.waiting.items c.visit.new.in_states.items
          c.loop-at.depth c.height.result before
          c.in_ok-fault.ensures.wide (sym c.in_ok-fault.ensures.refused ∙ c.in_default.is) c.in_ok-fault.ensures.propagated
          (c.height.ensures.value ∙ ap height_of here) c.height.ensures.limit));
      empty = c.in_ok-fault.ensures.emptied c.in_default.is;
    }
