-- Each end follows from how the lines were answered, and from what was saved after them.
use Rattle.std.proofs.Common.{◌≡◌, IfSome, false}
use Rattle.std.proofs.lemmas.Result.{IfErr-weaker, IfOk-weaker}
use Rattle.line_protocol.proofs.Viewed.{finishes, if_known, stops}
use Rattle.line_protocol.specs.declared.faults.StreamFault.{StreamFault}
use Rattle.router_script.specs.Running.{IsSavedInPart}
use Rattle.router_script.specs.Saved.{AnswersSaved}
use Rattle.router_script.specs.State.{prepared_of}
use Rattle.router_script.proofs.Ended.{breaks, by_end, cut_end, ends, ok_at}
use Rattle.router_script.proofs.saving.run_saved_script.Goals as goal

pub returns-clause-finished : goal.returns-clause-finished
returns-clause-finished g c =
    let known = g.R.Read.remaining c.args.reader.now in
    let left = g.R.Read.remaining c.answer_lines-ended.new.reader in
    let held = g.W.Write.contents c.args.writer.now in
    let holds = g.W.Write.contents c.answer_lines-ended.new.writer in
    let kept = g.V.Write.contents c.args.saver in
    let after = c.answer_lines-ended.new.service in
    let keeps = g.V.Write.contents c.finish.result.1 in
    rw c.finish.ensures.unfit
    (IfOk-weaker c.finish.result.0 _ _
    (λ n h. if_known known
    (λ input f. ends c.args.filters.now (record { script = prepared_of c.new.result; saves = c.args.saves; holds = kept; stops = c.args.stops })
    (record { script = prepared_of after.prepared; saves = after.saves; holds = g.V.Write.contents after.saver; stops = after.stops })
    input left held holds keeps n c.new.ensures h.1
    (finishes (λ s. record { script = prepared_of s.prepared; saves = s.saves; holds = g.V.Write.contents s.saver; stops = s.stops }) AnswersSaved
    (record {
      prepared = c.new.result;
      saves = c.args.saves;
      saver = c.args.saver;
      is_broken = false;
      watcher = c.args.watcher;
      stops = c.args.stops;
    }) after input left held holds n f))
    (ok_at _ c.answer_lines-ended.result n h.0 c.answer_lines-ended.ensures.ok))
    c.finish.ensures.finished)

pub returns-clause-broken_off : goal.returns-clause-broken_off
returns-clause-broken_off g c =
    let known = g.R.Read.remaining c.args.reader.now in
    let left = g.R.Read.remaining c.answer_lines-ended.new.reader in
    let held = g.W.Write.contents c.args.writer.now in
    let holds = g.W.Write.contents c.answer_lines-ended.new.writer in
    let kept = g.V.Write.contents c.args.saver in
    let after = c.answer_lines-ended.new.service in
    let keeps = g.V.Write.contents c.finish.result.1 in
    let at_end = IfOk-weaker c.answer_lines-ended.result _ _
    (λ n h. if_known known
    (λ input f. cut_end c.args.filters.now (record { script = prepared_of c.new.result; saves = c.args.saves; holds = kept; stops = c.args.stops })
    (record { script = prepared_of after.prepared; saves = after.saves; holds = g.V.Write.contents after.saver; stops = after.stops })
    input left held holds keeps n c.new.ensures
    (finishes (λ s. record { script = prepared_of s.prepared; saves = s.saves; holds = g.V.Write.contents s.saver; stops = s.stops }) AnswersSaved
    (record {
      prepared = c.new.result;
      saves = c.args.saves;
      saver = c.args.saver;
      is_broken = false;
      watcher = c.args.watcher;
      stops = c.args.stops;
    }) after input left held holds n f)) h)
    c.answer_lines-ended.ensures.ok in
    let in_lines = IfErr-weaker c.answer_lines-ended.result _ _
    (λ fault h. if_known known
    (λ input f. breaks fault c.args.filters.now (record { script = prepared_of c.new.result; saves = c.args.saves; holds = kept; stops = c.args.stops })
    (record { script = prepared_of after.prepared; saves = after.saves; holds = g.V.Write.contents after.saver; stops = after.stops })
    input left held holds c.new.ensures
    (stops (λ s. record { script = prepared_of s.prepared; saves = s.saves; holds = g.V.Write.contents s.saver; stops = s.stops }) AnswersSaved fault
    (record {
      prepared = c.new.result;
      saves = c.args.saves;
      saver = c.args.saver;
      is_broken = false;
      watcher = c.args.watcher;
      stops = c.args.stops;
    }) after input left held holds f)) h)
    c.answer_lines-ended.ensures.err in
    IfErr-weaker c.finish.result.0 _ _
    (λ told h. by_end
    (λ (fault : StreamFault). IfSome known (λ input. IsSavedInPart fault c.args.saves c.args.stops c.args.filters.now input left held holds kept keeps))
    (c.finish.result.1 ≡ after.saver) c.answer_lines-ended.result told h at_end (λ same. rw same in_lines))
    c.finish.ensures.broken_off
