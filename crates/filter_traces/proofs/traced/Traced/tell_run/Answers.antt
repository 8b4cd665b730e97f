-- The run goes on or ends as the machine's does, and what is told grows with each step.
use Rattle.std.proofs.Common.{◌∙◌, ◌++◌, ℕ, List, ap, refl, sym}
use Rattle.filter_code.specs.Machine.{Config, State, Going, step}
use Rattle.filter_traces.specs.Steps.{line_between}
use Rattle.filter_traces.proofs.Runs.{after_more, begun, ended_lines, ended_outcome, ended_place}
use Rattle.filter_traces.proofs.Runs.{few_steps, lines_more, no_place, none_told, place_more}
use Rattle.filter_traces.proofs.traced.Traced.tell_run.Goals as goal

pub loop-taken-init : goal.loop-taken-init
loop-taken-init c = record {
  here = begun c.args.self.now.program c.args.route.now
      ∙ ap (λ (x : Config). let s : State = Going x in s)
      (sym (rw c.code.ensures at c.new-running.ensures));
  shown_step = c.new-lines.ensures.items ∙ sym (none_told c.args.self.now c.args.route.now);
  place = sym (no_place c.args.self.now.program c.args.route.now);
}

pub returns-in-Some-clause-outcome : goal.returns-in-Some-clause-outcome
returns-in-Some-clause-outcome c =
    let few = few_steps c.args.self.now.program c.code-2.result.now c.instrs.result.now c.loop-taken.taken c.code-2.ensures
    c.instrs.ensures.value c.loop-taken-test.true in
    ended_outcome c.args.self.now c.args.route.now c.loop-taken.taken c.loop-taken.running c.in-Some.outcome few
    c.loop-taken.invariant.here (rw c.in-Some.is at c.in_ok-outcome.ensures.stepped)

pub returns-in-Some-clause-place : goal.returns-in-Some-clause-place
returns-in-Some-clause-place c =
    let few = few_steps c.args.self.now.program c.code-2.result.now c.instrs.result.now c.loop-taken.taken c.code-2.ensures
    c.instrs.ensures.value c.loop-taken-test.true in
    c.place-place.ensures
    ∙ sym (ended_place c.args.self.now c.args.route.now c.loop-taken.taken c.loop-taken.running c.in-Some.outcome few
    c.loop-taken.invariant.here (rw c.in-Some.is at c.in_ok-outcome.ensures.stepped))

pub returns-in-Some-clause-lines : goal.returns-in-Some-clause-lines
returns-in-Some-clause-lines c =
    let t = c.args.self.now in
    let few = few_steps t.program c.code-2.result.now c.instrs.result.now c.loop-taken.taken c.code-2.ensures
    c.instrs.ensures.value c.loop-taken-test.true in
    c.in_ok-outcome.ensures.shown_step
    ∙ (ap (λ (lines : List ℕ). lines ++ line_between t (Going c.loop-taken.running) (step t.program c.args.route.now c.loop-taken.running))
    c.loop-taken.invariant.shown_step
    ∙ (sym (lines_more t c.args.route.now c.loop-taken.taken c.loop-taken.running _ c.loop-taken.invariant.here refl)
    ∙ sym (ended_lines t c.args.route.now c.loop-taken.taken c.loop-taken.running c.in-Some.outcome few
    c.loop-taken.invariant.here (rw c.in-Some.is at c.in_ok-outcome.ensures.stepped))))

pub loop-taken-preserved : goal.loop-taken-preserved
loop-taken-preserved c =
    let t = c.args.self.now in record {
      here = after_more t.program c.args.route.now c.loop-taken.taken c.loop-taken.running _ c.loop-taken.invariant.here
          (rw c.in-None.is at c.in_ok-outcome.ensures.stepped);
      shown_step = c.in_ok-outcome.ensures.shown_step
          ∙ (ap (λ (lines : List ℕ). lines ++ line_between t (Going c.loop-taken.running) (step t.program c.args.route.now c.loop-taken.running))
          c.loop-taken.invariant.shown_step
          ∙ sym (lines_more t c.args.route.now c.loop-taken.taken c.loop-taken.running _ c.loop-taken.invariant.here refl));
      place = c.place-place.ensures
          ∙ sym (place_more t.program c.args.route.now c.loop-taken.taken c.loop-taken.running c.loop-taken.invariant.here);
    }
