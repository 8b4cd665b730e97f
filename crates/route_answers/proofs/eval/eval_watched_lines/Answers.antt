-- Each exit follows from how the lines were answered.
use Rattle.std.proofs.Common.{◌≡◌, ℕ, None, sym, subst}
use Rattle.filter_source.proofs.Refused.{of_error}
use Rattle.route_answers.specs.Evaluation.{Evaluates}
use Rattle.filter_reports.specs.Faults.{stream_fault}
use Rattle.route_answers.specs.Steps.{AnswersLine}
use Rattle.filter_reports.specs.declared.fault.ProgramFault.TheVariants.{Stream}
use Rattle.route_answers.proofs.EvalEndings.{breaks_at_refusal, breaks_off, ends_empty, ends_well, if_answered, if_known}
use Rattle.route_answers.proofs.EvalEndings.{if_refused, no_code_is_none, silent_run, some_code_is_some}
use Rattle.line_protocol.proofs.Viewed.{finishes, stops}
use Rattle.route_answers.proofs.eval.eval_watched_lines.Goals as goal
use Rattle.route_answers.proofs.eval.eval_watched_lines.Goals.{else-refused-eq0-via-then-refused-eq0+else-is_awaiting}
use Rattle.route_answers.proofs.eval.eval_watched_lines.Goals.{else-refused-eq0-via-else-refused-eq0}

pub returns-in_err-refused-clause-broken_off : goal.returns-in_err-refused-clause-broken_off
returns-in_err-refused-clause-broken_off g c =
    let fault = c.in_err-refused.field-0.0 in
    let after = c.answer_lines.new.service in
    of_error c.from_residual.result _ (Stream fault) c.from_residual.ensures.1
    (if_known _ (λ input f. breaks_off fault c.awaiting.result after.code input _ _ _ c.awaiting.ensures
    (stops (λ s. s.code) AnswersLine fault (record { code = c.awaiting.result; watcher = c.args.watcher }) after input _ _ _ f)) c.in_err-refused.ensures.err)

pub returns-then-is_awaiting-clause-finished : goal.returns-then-is_awaiting-clause-finished
returns-then-is_awaiting-clause-finished g c =
    let left = g.R.Read.remaining c.answer_lines.new.reader in
    let held = g.W.Write.contents c.args.writer.now in
    let mid = g.W.Write.contents c.answer_lines.new.writer in
    let holds = g.W.Write.contents c.refuse_empty.new.writer in
    let after = c.answer_lines.new.service in
    let none : after.code ≡ None = no_code_is_none _ c.if-is_awaiting.ensures in
    if_answered c.refuse_empty.result
    (λ n w. if_known _
    (λ input f. subst (λ (k : ℕ). Evaluates input left held holds k) (sym w.0)
    (ends_empty input left held mid holds
    (silent_run c.awaiting.result after.code input left held mid c.in_ok-refused.refused c.awaiting.ensures c.if-refused-eq0.true none
    (finishes (λ s. s.code) AnswersLine (record { code = c.awaiting.result; watcher = c.args.watcher }) after input left held mid c.in_ok-refused.refused f)) w.1))
    c.in_ok-refused.ensures.ok)
    c.refuse_empty.ensures.ok

pub returns-then-is_awaiting-clause-broken_off : goal.returns-then-is_awaiting-clause-broken_off
returns-then-is_awaiting-clause-broken_off g c =
    let left = g.R.Read.remaining c.answer_lines.new.reader in
    let held = g.W.Write.contents c.args.writer.now in
    let mid = g.W.Write.contents c.answer_lines.new.writer in
    let holds = g.W.Write.contents c.refuse_empty.new.writer in
    let after = c.answer_lines.new.service in
    let none : after.code ≡ None = no_code_is_none _ c.if-is_awaiting.ensures in
    if_refused c.refuse_empty.result
    (λ fault w. if_known _
    (λ input f. breaks_at_refusal (stream_fault fault) input left held mid holds
    (silent_run c.awaiting.result after.code input left held mid c.in_ok-refused.refused c.awaiting.ensures c.if-refused-eq0.true none
    (finishes (λ s. s.code) AnswersLine (record { code = c.awaiting.result; watcher = c.args.watcher }) after input left held mid c.in_ok-refused.refused f)) w)
    c.in_ok-refused.ensures.ok)
    c.refuse_empty.ensures.err

pub returns-clause-finished : goal.returns-clause-finished
returns-clause-finished g c =
    let after = c.answer_lines.new.service in
    if_known _ (λ input f. ends_well c.awaiting.result after.code input _ _ _ c.in_ok-refused.refused c.awaiting.ensures
    (λ zero none. elim c.else-refused-eq0.branch [
      | else-refused-eq0-via-then-refused-eq0+else-is_awaiting w ↦ some_code_is_some _ w.if-is_awaiting.ensures none
      | else-refused-eq0-via-else-refused-eq0 w ↦ w.if-refused-eq0.false zero
    ])
    (finishes (λ s. s.code) AnswersLine (record { code = c.awaiting.result; watcher = c.args.watcher }) after input _ _ _ c.in_ok-refused.refused f)) c.in_ok-refused.ensures.ok
