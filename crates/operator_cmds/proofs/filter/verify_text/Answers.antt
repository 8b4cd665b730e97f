-- The verifier's answer is that to the text's code.
use Rattle.std.proofs.Common.{IfErr, IfOk, ℕ, subst, sym}
use Rattle.filter_source.specs.Diagnoses.{TellsOfText}
use Rattle.filter_source.specs.Failures.{OnDiagnosis}
use Rattle.filter_source.specs.Sources.{IsRefusedText}
use Rattle.filter_source.specs.TextPlaces.{ArePlacesOf}
use Rattle.operator_cmds.specs.Script.{GivesText, IsTextDiagnosis, IsVerified}
use Rattle.operator_cmds.proofs.Sourced.{diagnosed_by, verified}
use Rattle.operator_cmds.proofs.filter.verify_text.Goals as goal

pub returns-clause-verified : goal.returns-clause-verified
returns-clause-verified c =
    let gives = GivesText c.args.text.now in
    subst (λ (n : ℕ). IfOk c.verify_mapped.result (λ v. IsVerified gives n v)) c.from.ensures
    (verified gives c.in_ok-code.field-0.code c.from.result c.verify_mapped.result c.in_ok-code.ensures.code
    c.verify_mapped.ensures.verified c.verify_mapped.ensures.safe)

pub returns-clause-refused : goal.returns-clause-refused
returns-clause-refused c =
    let text = c.args.text.now in
    let mapped = c.in_ok-code.field-0 in
    subst (λ (n : ℕ). IfErr c.verify_mapped.result (OnDiagnosis (IsTextDiagnosis text n))) c.from.ensures
    (diagnosed_by (GivesText text) (IsRefusedText text) (TellsOfText text) (ArePlacesOf text) mapped.code c.as_slice.result.now c.from.result c.verify_mapped.result
    c.in_ok-code.ensures.code (subst (ArePlacesOf text) (sym c.as_slice.ensures.value) c.in_ok-code.ensures.places)
    c.verify_mapped.ensures.refused c.verify_mapped.ensures.diagnosis)
