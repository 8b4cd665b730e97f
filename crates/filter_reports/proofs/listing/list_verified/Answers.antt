use Rattle.std.proofs.Common.{◌≡◌, ℕ, List, Some, length, ap, subst, ◌∙◌, arith}
use Rattle.std.specs.Prelude.{IfSome}
use Rattle.filter_source.specs.Diagnoses.{TellsOfCode}
use Rattle.filter_source.specs.Sources.{IsUnsafe}
use Rattle.std.proofs.lemmas.Result.{IfOk-weaker}
use Rattle.filter_verifier.specs.FirstFault.{the_fault}
use Rattle.filter_verifier.specs.Surveys.{surveyed}
use Rattle.filter_reports.specs.Checking.{EndsLines}
use Rattle.filter_reports.specs.Listing.{IsListing, Lists, known_before, origin_in, refusal_in}
use Rattle.filter_reports.proofs.Listings.{listing_ends, listing_told, surveyed_within}
use Rattle.filter_reports.proofs.listing.list_verified.Goals as goal

pub returns-clause-listing : goal.returns-clause-listing
returns-clause-listing c =
    let program = c.args.code.now in
    let origin : ℕ → List ℕ = origin_in c.args.origins.now.source c.args.origins.now.places.now in
    let verdict = c.in_ok-survey.survey.verdict in
    let front = c.in_ok-text.text.items in
    let counted : length c.as_slice.result.now ≡ surveyed program c.args.size (the_fault program c.args.size) =
    ap length c.as_slice.ensures.value ∙ c.in_ok-survey.ensures.reach in
    let lists = subst (λ (n : ℕ). Lists program.instrs (known_before program c.args.size) origin n front) counted c.in_ok-text.ensures in
    IfOk-weaker c.end_lines.result (λ listing. EndsLines c.args.origins.now.places.now verdict front listing.text.items listing.diagnosis)
    (λ listing. IsListing (Some c.args.size) program origin listing.text.items (refusal_in listing.diagnosis))
    (λ listing ends. listing_ends program c.args.size origin c.args.origins.now.places.now verdict front listing.text.items listing.diagnosis
    c.in_ok-survey.ensures.verdict lists ends)
    c.end_lines.ensures

pub returns-clause-diagnosis : goal.returns-clause-diagnosis
returns-clause-diagnosis c =
    let verdict = c.in_ok-survey.survey.verdict in
    let front = c.in_ok-text.text.items in
    let places = c.args.origins.now.places.now in
    IfOk-weaker c.end_lines.result (λ listing. EndsLines places verdict front listing.text.items listing.diagnosis)
    (λ listing. IfSome listing.diagnosis (λ diagnosis. IsUnsafe c.args.code.now c.args.size diagnosis.refusal × TellsOfCode c.args.code.now places c.args.size diagnosis))
    (λ listing ends. listing_told c.args.code.now c.args.size places verdict front listing.text.items listing.diagnosis c.in_ok-survey.ensures.verdict ends)
    c.end_lines.ensures

pub list_visited-requires-clause-within : goal.list_visited-requires-clause-within
list_visited-requires-clause-within c =
    let program = c.args.code.now in
    omega (
      arith,
      ap length c.as_slice.ensures.value,
      c.in_ok-survey.ensures.reach,
      surveyed_within program c.args.size (the_fault program c.args.size),
    )
