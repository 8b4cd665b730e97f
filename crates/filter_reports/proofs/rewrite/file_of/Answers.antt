use Rattle.std.proofs.lemmas.Result.{IfErr-weaker, IfOk-weaker}
use Rattle.filter_source.proofs.Refused.{of_error}
use Rattle.filter_reports.proofs.Rewritten.{code_is_unwritten, no_code}
use Rattle.filter_reports.proofs.rewrite.file_of.Goals as goal

pub returns-in_err-compiled-clause-refused : goal.returns-in_err-compiled-clause-refused
returns-in_err-compiled-clause-refused c =
    of_error c.from_residual.result _ _ c.from_residual.ensures.1
    (no_code c.args.is_old c.args.input.now c.in_err-compiled.field-0.0 c.in_err-compiled.ensures.refused)

pub returns-clause-written : goal.returns-clause-written
returns-clause-written c =
    IfOk-weaker c.write_file.result _ _
    (λ bytes w. (c.in_ok-compiled.compiled.code, c.in_ok-compiled.ensures.code, w.0, w.1)) c.write_file.ensures.written

pub returns-clause-refused : goal.returns-clause-refused
returns-clause-refused c =
    IfErr-weaker c.write_file.result _ _
    (λ e h. code_is_unwritten c.args.is_old c.args.input.now c.in_ok-compiled.compiled.code e c.in_ok-compiled.ensures.code h)
    c.write_file.ensures.refused
