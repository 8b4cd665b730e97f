use Rattle.std.proofs.Common.{ℕ, false, List, subst, sym, inl}
use Rattle.filter_reports.specs.Check.{IsRefused}
use Rattle.filter_parser.specs.Telling.{TellsRound}
use Rattle.filter_parser.specs.Unspelled.{IsUnspelled}
use Rattle.filter_source.specs.Diagnoses.{TellsOfText}
use Rattle.ncimport.proofs.ResultTexts.{of_refusal}
use Rattle.ncimport.proofs.importing.refuse_text.Goals as goal

pub returns-clause-told : goal.returns-clause-told
returns-clause-told c =
    let text = c.args.written.now.text.items in
    let told = c.source_diagnosis-diagnosis.result in
    let unspelled = subst (λ (t : List ℕ). IsUnspelled t c.args.why.fault) (sym c.as_slice.ensures.value) c.requires.unspelled in
    let round = subst (λ (t : List ℕ). TellsRound t c.args.why.fault c.args.why.around) (sym c.as_slice.ensures.value) c.requires.round in
    let is : IsRefused false text told.refusal × TellsOfText text told =
    subst (λ (t : List ℕ). IsRefused false t told.refusal × TellsOfText t told) c.as_slice.ensures.value
    (c.source_diagnosis-diagnosis.ensures unspelled round) in
    of_refusal c.args.at text c.args.written.now.origins.items told c.refused.result c.refused.ensures.words c.refused.ensures.place
    (λ size. inl is)
