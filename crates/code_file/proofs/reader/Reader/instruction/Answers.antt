use Rattle.std.proofs.lemmas.Result.{err_from_is_err_and}
use Rattle.code_file.specs.Reading.{a_form, an_operand}
use Rattle.code_file.proofs.Steps.{reads_both, reads_no_more}
use Rattle.code_file.proofs.reader.Reader.instruction.Goals as goal

pub returns-in_err-form-clause-value : goal.returns-in_err-form-clause-value
returns-in_err-form-clause-value c =
    let p = err_from_is_err_and c.from_residual.result c.from_residual.ensures.1 in
    rw (p.1, p.2) (reads_no_more (a_form c.args.version) an_operand c.args.self.now c.in_err-form.field-0.0 c.in_err-form.ensures)

pub returns-clause-value : goal.returns-clause-value
returns-clause-value c =
    reads_both (λ i. i) (a_form c.args.version) an_operand c.args.self.now _ _ c.in_ok-form.form _ c.in_ok-form.ensures c.operand.ensures.value
