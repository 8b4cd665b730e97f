use Rattle.std.proofs.Common.{Err, ap}
use Rattle.filter_source.proofs.Refused.{of_error, only_memory, unwritten}
use Rattle.filter_source.proofs.source.write_file.Goals as goal

pub returns-in_err-write_old-clause-refused : goal.returns-in_err-write_old-clause-refused
returns-in_err-write_old-clause-refused c =
    let why = c.in_err-write_old.field-0.0 in
    of_error c.from_residual.result _ _ c.from_residual.ensures.1
    (unwritten c.args.is_old c.args.code.now why c.if-is_old.true
    (λ e. c.in_err-write_old.ensures.old_form.0 (ap (λ w. Err w) e)) c.in_err-write_old.ensures.refused)

pub returns-in_err-write_code-clause-refused : goal.returns-in_err-write_code-clause-refused
returns-in_err-write_code-clause-refused c =
    of_error c.from_residual-in_err-write_code.result _ _ c.from_residual-in_err-write_code.ensures.1
    (only_memory c.args.is_old c.args.code.now c.in_err-write_code.field-0.0 c.in_err-write_code.ensures.refused)
