-- The run of the service counts each line, or the first of them.
use Rattle.filter_source.proofs.Refused.{of_error}
use Rattle.route_answers.proofs.EvalEndings.{if_known}
use Rattle.filter_reports.specs.declared.fault.ProgramFault.TheVariants.{Stream}
use Rattle.filter_traces.proofs.Covered.{breaks_off, ends_well}
use Rattle.filter_traces.proofs.coverage.Counter.count_lines.Goals as goal

pub returns-in_err-answer_lines_within-clause-broken_off : goal.returns-in_err-answer_lines_within-clause-broken_off
returns-in_err-answer_lines_within-clause-broken_off g c =
    let s = c.args.self.now in
    let fault = c.in_err-answer_lines_within.field-0.0 in
    of_error c.from_residual.result _ (Stream fault) c.from_residual.ensures.1
    (if_known _ (λ input f. breaks_off s.traced fault s c.answer_lines_within.new.service c.requires input _ _ _ f)
    c.in_err-answer_lines_within.ensures.err)

pub returns-clause-finished : goal.returns-clause-finished
returns-clause-finished g c =
    let s = c.args.self.now in
    if_known _ (λ input f. ends_well s.traced s c.answer_lines_within.new.service c.requires input _ _ _ c.in_ok-answer_lines_within.field-0 f)
    c.in_ok-answer_lines_within.ensures.ok
