-- The run of the service answers each line, or the first of them.
use Rattle.filter_source.proofs.Refused.{of_error}
use Rattle.route_answers.proofs.EvalEndings.{if_known}
use Rattle.filter_reports.specs.declared.fault.ProgramFault.TheVariants.{Stream}
use Rattle.line_protocol.proofs.Viewed.{finishes, stops}
use Rattle.route_answers.proofs.Answered.{answers, code_breaks_off, code_ends_well}
use Rattle.route_answers.proofs.filter.answer_routes.Goals as goal

pub returns-in_err-answer_lines_within-clause-broken_off : goal.returns-in_err-answer_lines_within-clause-broken_off
returns-in_err-answer_lines_within-clause-broken_off g c =
    let v = c.args.verified in
    let after = c.answer_lines_within.new.service in
    let fault = c.in_err-answer_lines_within.field-0.0 in
    of_error c.from_residual.result _ (Stream fault) c.from_residual.ensures.1
    (if_known _ (λ input f. code_breaks_off v fault after.verified input _ _ _
    (stops (λ s. s.verified) answers fault (record { verified = v; watcher = c.args.watcher }) after input _ _ _ f))
    c.in_err-answer_lines_within.ensures.err)

pub returns-clause-finished : goal.returns-clause-finished
returns-clause-finished g c =
    let v = c.args.verified in
    let after = c.answer_lines_within.new.service in
    let n = c.in_ok-answer_lines_within.field-0 in
    if_known _ (λ input f. code_ends_well v after.verified input _ _ _ n
    (finishes (λ s. s.verified) answers (record { verified = v; watcher = c.args.watcher }) after input _ _ _ n f))
    c.in_ok-answer_lines_within.ensures.ok
