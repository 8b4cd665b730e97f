-- The run of the service answers each line, or the first of them.
use Rattle.std.proofs.Common.{refl}
use Rattle.filter_source.proofs.Refused.{of_error}
use Rattle.route_answers.proofs.EvalEndings.{if_known}
use Rattle.filter_reports.specs.declared.fault.ProgramFault.TheVariants.{Stream}
use Rattle.filter_traces.proofs.Explained.{breaks_off, ends_well}
use Rattle.filter_traces.proofs.why.answer_whys.Goals as goal

pub returns-in_err-answer_lines_within-clause-broken_off : goal.returns-in_err-answer_lines_within-clause-broken_off
returns-in_err-answer_lines_within-clause-broken_off g c =
    let t = c.args.traced in
    let fault = c.in_err-answer_lines_within.field-0.0 in
    of_error c.from_residual.result _ (Stream fault) c.from_residual.ensures.1
    (if_known _ (λ input f. breaks_off t fault (record { traced = t }) c.answer_lines_within.new.service refl input _ _ _ f)
    c.in_err-answer_lines_within.ensures.err)

pub returns-clause-finished : goal.returns-clause-finished
returns-clause-finished g c =
    let t = c.args.traced in
    if_known _ (λ input f. ends_well t (record { traced = t }) c.answer_lines_within.new.service refl input _ _ _ c.in_ok-answer_lines_within.field-0 f)
    c.in_ok-answer_lines_within.ensures.ok
