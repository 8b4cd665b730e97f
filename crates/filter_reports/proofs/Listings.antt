-- How a listing grows, line by line.
use Rattle.std.proofs.Common.{◌≡◌, ℕ, ◌+◌, ◌≤◌, ◌<◌, Bool, true, false, List, [], ◌∷◌, ◌++◌, length, take, get_or, Option, Some, None}
use Rattle.std.proofs.Common.{refl, sym, ap, ◌∙◌, add-one, append_assoc, arith}
use Rattle.std.proofs.lemmas.List.{append-nil, take_more}
use Rattle.std.specs.Prelude.{IfSome, Result, Ok, Err, slice_get, if◌then◌else◌}
use Rattle.std.specs.Option.{option_map}
use Rattle.filter_code.specs.CodeView.{CodeView}
use Rattle.filter_code.specs.declared.instruction.Instr.{Instr}
use Rattle.filter_source.specs.Diagnoses.{TellsOfCode, of_code}
use Rattle.filter_source.specs.Sources.{IsUnsafe}
use Rattle.filter_source.specs.BoundsLine.{bounds_line}
use Rattle.filter_source.specs.declared.diagnosis.Diagnosis.{Diagnosis}
use Rattle.filter_source.specs.declared.refusal.Refusal.{Refusal}
use Rattle.filter_source.specs.declared.refusal.Refusal.TheVariants.{Verify}
use Rattle.filter_verifier.specs.FirstFault.{is_size, the_fault}
use Rattle.filter_verifier.specs.Bounds.{cost}
use Rattle.filter_verifier.specs.Ranges.{RangeView}
use Rattle.filter_verifier.specs.Surveys.{reach, surveyed}
use Rattle.filter_verifier.specs.Verdicts.{IsVerdict}
use Rattle.filter_verifier.specs.declared.fact.Fact.{Fact}
use Rattle.filter_verifier.specs.declared.fault.Unverified.{Unverified}
use Rattle.filter_verifier.specs.declared.fault.VerifyFault.{VerifyFault}
use Rattle.filter_verifier.specs.declared.survey.RunBounds.{RunBounds}
use Rattle.filter_reports.specs.Check.{verdict_on}
use Rattle.filter_reports.specs.Checking.{EndsLines}
use Rattle.filter_reports.specs.Listing.{IsListing, Lists, instruction_line, known_before, place_text, places_text, refusal_in}

-- one place more
pub places_more : (places : List (Option Fact)) (place : Option Fact)
    → places_text (places ++ place ∷ []) ≡ (places_text places ++ 32 ∷ []) ++ place_text place
places_more [] place = simp append-nil
places_more (first ∷ places) place =
    ap (λ (text : List ℕ). (32 ∷ [] ++ place_text first) ++ text) (places_more places place) ∙ simp append_assoc

-- no instruction
pub none_listed : (instrs : List Instr) (known origin : ℕ → List ℕ) (text : List ℕ) → text ≡ [] → Lists instrs known origin 0 text
unfolding Lists
none_listed instrs known origin text empty = empty

-- one instruction more
pub listed_more : (instrs : List Instr) (known origin : ℕ → List ℕ) (n : ℕ) (i : Instr) (front text : List ℕ)
    → slice_get instrs n ≡ Some i → Lists instrs known origin n front
    → text ≡ front ++ known n ++ instruction_line n i (origin n) → Lists instrs known origin (n + 1) text
unfolding Lists
listed_more instrs known origin n i front text is listed more = rw add-one (front, i, listed, is, more)

-- a survey does not come behind the last instruction
within : (found : Option VerifyFault) (program : CodeView) → reach program found ≤ length program.instrs
within None program = omega arith
within (Some why) program = omega arith

within_size : (b : Bool) (found : Option VerifyFault) (program : CodeView)
    → (if b then reach program found else 0) ≤ length program.instrs
within_size true found program = within found program
within_size false found program = omega arith

pub surveyed_within : (program : CodeView) (size : ℕ) (found : Option VerifyFault) → surveyed program size found ≤ length program.instrs
surveyed_within program size found = within_size (is_size size) found program

-- what is pushed for one place more
pub places_grow : (places : List (Option Fact)) (i : ℕ) (d : Option Fact) (start now pushed text : List ℕ) → i < length places
    → now ≡ start ++ places_text (take i places) → pushed ≡ now ++ 32 ∷ [] → text ≡ pushed ++ place_text (get_or places i d)
    → text ≡ start ++ places_text (take (i + 1) places)
places_grow places i d start now pushed text inside so_far space more =
    let front : List ℕ = places_text (take i places) in
    let last : List ℕ = place_text (get_or places i d) in
    let regrouped : ((start ++ front) ++ 32 ∷ []) ++ last ≡ start ++ ((front ++ 32 ∷ []) ++ last) = simp append_assoc in
    more ∙ (ap (λ (t : List ℕ). t ++ last) space ∙ (ap (λ (t : List ℕ). (t ++ 32 ∷ []) ++ last) so_far ∙ (regrouped
    ∙ (ap (λ (t : List ℕ). start ++ t) (sym (places_more (take i places) (get_or places i d)))
    ∙ ap (λ (ps : List (Option Fact)). start ++ places_text ps) (sym (take_more places i d inside))))))

-- a listing that ends with what a survey says of its code
ended : (program : CodeView) (size : ℕ) (origin : ℕ → List ℕ) (front text last : List ℕ) (found : Option VerifyFault) (why : Option Refusal)
    → the_fault program size ≡ found → Lists program.instrs (known_before program size) origin (surveyed program size (the_fault program size)) front
    → text ≡ front ++ last → last ≡ (verdict_on program found).text → why ≡ option_map (λ fault. Verify fault) found
    → IsListing (Some size) program origin text why
ended program size origin front text last found why is lists whole line refused = (
  front,
  lists,
  whole ∙ ap (λ (t : List ℕ). front ++ t) (line ∙ ap (λ (f : Option VerifyFault). (verdict_on program f).text) (sym is)),
  refused ∙ ap (λ (f : Option VerifyFault). option_map (λ fault. Verify fault) f) (sym is),
)

pub listing_ends : (program : CodeView) (size : ℕ) (origin : ℕ → List ℕ) (places : List ℕ) (verdict : Result RunBounds Unverified)
    (front text : List ℕ) (diagnosis : Option Diagnosis) → IsVerdict program size verdict
    → Lists program.instrs (known_before program size) origin (surveyed program size (the_fault program size)) front
    → EndsLines places verdict front text diagnosis → IsListing (Some size) program origin text (refusal_in diagnosis)
listing_ends program size origin places (Ok b) front text diagnosis says lists ends =
    ended program size origin front text (bounds_line b.budget b.depth) None (refusal_in diagnosis) says.0 lists ends.0
    (ap (λ (n : ℕ). bounds_line n b.depth) says.1 ∙ ap (bounds_line (cost program.instrs 0)) says.2) (ap refusal_in ends.1)
listing_ends program size origin places (Err e) front text diagnosis says lists ends =
    ended program size origin front text _ (Some e.fault) (refusal_in diagnosis) says.0 lists ends.0 refl (ap refusal_in ends.1)

pub listing_told : (program : CodeView) (size : ℕ) (places : List ℕ) (verdict : Result RunBounds Unverified) (front text : List ℕ)
    (diagnosis : Option Diagnosis) → IsVerdict program size verdict → EndsLines places verdict front text diagnosis
    → IfSome diagnosis (λ diagnosis. IsUnsafe program size diagnosis.refusal × TellsOfCode program places size diagnosis)
listing_told program size places (Ok b) front text diagnosis says ends = rw ends.1 tt
listing_told program size places (Err e) front text diagnosis says ends =
    rw ends.1 ((e.fault, refl, says.0), (e.fault, ap (λ (range : Option RangeView). of_code e.fault range places) says.1))
