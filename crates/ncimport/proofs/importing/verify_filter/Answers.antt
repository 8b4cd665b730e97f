use Rattle.std.proofs.Common.{ℕ, ◌∙◌, false, List, ap, subst}
use Rattle.bird_import.specs.declared.text.Origin.{Origin}
use Rattle.filter_reports.specs.Checking.{IsDiagnosis}
use Rattle.filter_reports.specs.VerifiedFilters.{IsVerifiedOf}
use Rattle.filter_source.specs.TextPlaces.{ArePlacesOf}
use Rattle.ncimport.specs.Noting.{notes_text}
use Rattle.ncimport.proofs.ResultTexts.{of_told, told_of}
use Rattle.ncimport.proofs.NotedTexts.{unnoted}
use Rattle.ncimport.proofs.importing.verify_filter.Goals as goal

pub returns-in-Ok-clause-noted : goal.returns-in-Ok-clause-noted
returns-in-Ok-clause-noted c =
    let code = c.in-Ok.code in
    let config = c.args.placed.now in
    let name = c.args.conversion.now.name.now in
    let at = c.args.conversion.now.at in
    let text = c.args.written.text.items in
    record {
      verified = code.verified;
      is = subst (λ (t : List ℕ). IsVerifiedOf c.args.size t code.verified) c.as_slice.ensures.value c.in-Ok.ensures.verified;
      places = code.places.items;
      are_places = subst (λ (t : List ℕ). ArePlacesOf t code.places.items) c.as_slice.ensures.value c.in-Ok.ensures.places;
      lines = c.in_ok-notes-in-Ok.ensures
          ∙ (ap (λ (t : List ℕ). notes_text config name at t c.as_slice-origins.result.now code.verified code.places.items) c.as_slice-text.ensures.value
          ∙ ap (λ (o : List Origin). notes_text config name at text o code.verified code.places.items) c.as_slice-origins.ensures.value);
    }

pub returns-in-Err-Refused-clause-filter_result : goal.returns-in-Err-Refused-clause-filter_result
returns-in-Err-Refused-clause-filter_result c =
    let told = c.in-Err-Refused.diagnosis in
    let is = told_of c.args.size c.as_slice.result.now c.placed_code.result c.in-Err-Refused.field-0 told c.placed_code.ensures.refused
    c.in-Err-Refused.is c.in-Err-Refused.field-0-is in
    of_told c.args.size c.args.conversion.now.at c.args.written.text.items c.args.written.origins.items told c.refused.result c.refused.ensures.text
    c.refused.ensures.words c.refused.ensures.place (subst (λ (text : List ℕ). IsDiagnosis c.args.size false text told) c.as_slice.ensures.value is)

pub returns-in-Err-Refused-clause-noted : goal.returns-in-Err-Refused-clause-noted
returns-in-Err-Refused-clause-noted c =
    unnoted c.args.placed.now c.args.conversion.now.name.now c.args.size c.args.conversion.now.at c.args.written.text.items c.args.written.origins.items
    c.refused.result c.refused.ensures.text c.refused.ensures.notes
