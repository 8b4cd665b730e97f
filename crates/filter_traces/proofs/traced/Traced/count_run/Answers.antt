-- The run goes on or ends as the machine's does, and each step is counted at its place.
use Rattle.std.proofs.Common.{◌<◌, ◌∙◌, Bool, length, ap, arith, sym}
use Rattle.std.specs.Prelude.{slice_index}
use Rattle.filter_code.specs.Machine.{Config, State, Going}
use Rattle.filter_traces.specs.Hits.{counted_up}
use Rattle.filter_traces.proofs.HitRuns.{comes_nowhere, ended_count, one_more_count}
use Rattle.filter_traces.proofs.Runs.{after_more, begun, few_steps}
use Rattle.filter_traces.proofs.traced.Traced.count_run.Goals as goal

pub loop-taken-init : goal.loop-taken-init
loop-taken-init c = record {
  here = begun c.args.self.now.program c.args.route.now
      ∙ ap (λ (x : Config). let s : State = Going x in s) (sym (rw c.code.ensures at c.new-running.ensures));
  counted = λ k less. sym (ap (λ (b : Bool). counted_up b (slice_index c.args.counts.now k))
      (comes_nowhere c.args.self.now.program c.args.route.now k));
}

pub returns-in-Some : goal.returns-in-Some
returns-in-Some c = λ k less.
    let program = c.args.self.now.program in
    let route = c.args.route.now in
    let inside : k < length c.loop-taken.counts = omega arith in
    let few = few_steps program c.code-2.result.now c.instrs.result.now c.loop-taken.taken c.code-2.ensures
    c.instrs.ensures.value c.loop-taken-test.true in
    one_more_count program route c.loop-taken.taken c.loop-taken.running c.loop-taken.invariant.here k c.place.result _ _ _ c.place.ensures
    (c.loop-taken.invariant.counted k inside) (c.count_one.ensures k inside)
    ∙ ap (λ (b : Bool). counted_up b (slice_index c.args.counts.now k))
    (ended_count program route c.loop-taken.taken c.loop-taken.running c.in-Some.field-0 few c.loop-taken.invariant.here
    (rw c.code-in-loop-taken.ensures at c.in-Some.ensures) k)

pub loop-taken-preserved : goal.loop-taken-preserved
loop-taken-preserved c =
    let program = c.args.self.now.program in
    let route = c.args.route.now in record {
      here = after_more program route c.loop-taken.taken c.loop-taken.running _ c.loop-taken.invariant.here
          (rw c.code-in-loop-taken.ensures at c.in-None.ensures);
      counted = λ k less.
          let inside : k < length c.loop-taken.counts = omega arith in
          one_more_count program route c.loop-taken.taken c.loop-taken.running c.loop-taken.invariant.here k c.place.result _ _ _
          c.place.ensures (c.loop-taken.invariant.counted k inside) (c.count_one.ensures k inside);
    }
