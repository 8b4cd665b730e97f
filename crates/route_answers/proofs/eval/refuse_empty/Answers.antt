-- The refusal is written, or a front of it.
use Rattle.std.proofs.Common.{◌≡◌, ℕ, List, refl, ◌∙◌, subst}
use Rattle.std.specs.Io.KnownBytes.{Appends}
use Rattle.filter_source.proofs.Refused.{of_error}
use Rattle.line_protocol.specs.Runs.{AppendsFront}
use Rattle.route_answers.specs.Eval.{no_code}
use Rattle.filter_reports.specs.declared.fault.ProgramFault.TheVariants.{Stream}
use Rattle.route_answers.proofs.eval.refuse_empty.Goals as goal

pub returns-in_err-write_text-clause-err : goal.returns-in_err-write_text-clause-err
returns-in_err-write_text-clause-err g c =
    let held = g.W.Write.contents c.args.writer.now in
    let holds = g.W.Write.contents c.write_text.new.writer in
    let text : c.as_slice.result.now ≡ no_code.text = c.as_slice.ensures.value ∙ c.in_ok-text.ensures in
    let front = subst (λ (t : List ℕ). AppendsFront held holds t) text c.in_err-write_text.ensures.err.1 in
    of_error c.from_residual-in_err-write_text.result _ (Stream c.in_err-write_text.field-0.0) c.from_residual-in_err-write_text.ensures.1
    (rw c.in_err-write_text.ensures.err.0 front)

pub returns-clause-ok : goal.returns-clause-ok
returns-clause-ok g c =
    let held = g.W.Write.contents c.args.writer.now in
    let holds = g.W.Write.contents c.write_text.new.writer in
    let text : c.as_slice.result.now ≡ no_code.text = c.as_slice.ensures.value ∙ c.in_ok-text.ensures in
    (refl, subst (λ (t : List ℕ). Appends held holds t) text c.in_ok-write_text.ensures.ok)
