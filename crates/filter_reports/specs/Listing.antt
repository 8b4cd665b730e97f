-- The listing of a code: a line for each instruction, with the place in the text that it comes from, and, for domains of a size, a
-- line before it that says what the verifier knows there. (This project's own choice.)
use Rattle.std.specs.Prelude.{◌≡◌, ℕ, zero, suc, ◌+◌, ◌⊎◌, Bool, if◌then◌else◌, List, [], ◌∷◌, ◌++◌, Option}
use Rattle.std.specs.Prelude.{Some, None, IfSome, codes, decimal, is_some, length, slice_get}
use Rattle.std.specs.Option.{option_map}
use Rattle.filter_code.specs.CodeView.{CodeView}
use Rattle.filter_code.specs.Names.{instruction_text}
use Rattle.filter_code.specs.declared.instruction.Instr.{Instr}
use Rattle.filter_code.specs.declared.instruction.Instr.TheVariants as instr
use Rattle.filter_source.specs.Diagnoses.{TellsOfCode, TellsOfSource}
use Rattle.filter_source.specs.Sources.{IsUnsafe}
use Rattle.filter_source.specs.declared.diagnosis.Diagnosis.{Diagnosis}
use Rattle.filter_source.specs.declared.refusal.Refusal.{Refusal}
use Rattle.filter_source.specs.declared.refusal.Refusal.TheVariants.{Verify}
use Rattle.filter_verifier.specs.FirstFault.{the_fault}
use Rattle.filter_verifier.specs.InStateView.{InStateView, Unreached, UnlikeDepths, Known}
use Rattle.filter_verifier.specs.InStates.{in_state}
use Rattle.filter_verifier.specs.Surveys.{surveyed}
use Rattle.filter_verifier.specs.declared.fact.Fact.{Fact}
use Rattle.filter_verifier.specs.declared.fact.Fact.TheVariants as fact
use Rattle.filter_reports.specs.Check.{GivesCode, IsRefused, verdict_on}
use Rattle.filter_reports.specs.Checking.{ArePlaces}
use Rattle.filter_reports.specs.Notices.{IsNoticeIf, Named}
use Rattle.filter_reports.specs.Reports.{ReportView, status_of_found}
use Rattle.filter_reports.specs.VerifiedFilters.{refusal_line}
use Rattle.filter_reports.specs.declared.wording.Wording.{Wording}
use Rattle.refusal_words.specs.Places.{column_at, line_at}

-- the mark of an int that is at least the metric received
abbrev pub mark : Bool → List ℕ
mark is_marked = if is_marked then codes ">=received" else []

-- what is known of a value: an int's range and mark, or another kind
abbrev pub fact_text : Fact → List ℕ
fact_text (fact.Int range) = decimal range.low ++ codes ".." ++ decimal range.high ++ mark range.at_least_received
fact_text fact.Bool = codes "bool"
fact_text fact.Ip = codes "ip"
fact_text fact.Prefix = codes "prefix"

-- what is known at a place
abbrev pub place_text : Option Fact → List ℕ
place_text None = codes "?"
place_text (Some known) = fact_text known

-- what is known at each of some places, each behind a space
abbrev pub places_text : List (Option Fact) → List ℕ
places_text [] = []
places_text (place ∷ places) = (32 ∷ [] ++ place_text place) ++ places_text places

-- what is known before an instruction, the top of the stack first
abbrev pub state_text : InStateView → List ℕ
state_text Unreached = codes "  no path leads here" ++ 10 ∷ []
state_text UnlikeDepths = codes "  paths meet here whose stacks differ in depth" ++ 10 ∷ []
state_text (Known frame) = codes "  stack:" ++ places_text frame.stack ++ codes "; variables:" ++ places_text frame.locals ++ 10 ∷ []

-- where an instruction jumps to
abbrev pub target_text : ℕ → Instr → List ℕ
target_text at (instr.Jump skipped) = codes " to " ++ decimal (at + 1 + skipped)
target_text at (instr.JumpIfNot skipped) = codes " to " ++ decimal (at + 1 + skipped)
target_text at _ = []

-- the line and the column of a byte of a text that an instruction comes from
abbrev pub origin_text : List ℕ → Option ℕ → List ℕ
origin_text source None = []
origin_text source (Some byte) = codes " ; " ++ decimal (line_at source byte) ++ 58 ∷ [] ++ decimal (column_at source byte)

-- the same of the instruction of an index, where the bytes that the instructions of a code come from are known
abbrev pub origin_in : List ℕ → List ℕ → ℕ → List ℕ
origin_in source places at = origin_text source (slice_get places at)

-- the line of an instruction: its index, the instruction itself, where it jumps to, and where it comes from
abbrev pub instruction_line : ℕ → Instr → List ℕ → List ℕ
instruction_line at i origin = decimal at ++ 32 ∷ [] ++ instruction_text i ++ target_text at i ++ origin ++ 10 ∷ []

-- a text lists the first n instructions of a code, each behind what is known before it, with where it comes from
unfoldable pub Lists : List Instr → (ℕ → List ℕ) → (ℕ → List ℕ) → ℕ → List ℕ → Type 0
Lists instrs known origin zero text = text ≡ []
Lists instrs known origin (suc n) text = (front : List ℕ) × (i : Instr) × Lists instrs known origin n front
    × (slice_get instrs n ≡ Some i) × (text ≡ front ++ known n ++ instruction_line n i (origin n))

-- nothing, and what the verifier knows before an instruction in a domain of a size
abbrev pub nothing_known : ℕ → List ℕ
nothing_known n = []

abbrev pub known_before : CodeView → ℕ → ℕ → List ℕ
known_before program size n = state_text (in_state program size n)

-- the listing of a code, and why it is refused: with a size it ends at the instruction that is refused
abbrev pub IsListing : Option ℕ → CodeView → (ℕ → List ℕ) → List ℕ → Option Refusal → Type 0
IsListing None program origin text why = Lists program.instrs nothing_known origin (length program.instrs) text × (why ≡ None)
IsListing (Some size) program origin text why = (front : List ℕ)
    × Lists program.instrs (known_before program size) origin (surveyed program size (the_fault program size)) front
    × (text ≡ front ++ (verdict_on program (the_fault program size)).text)
    × (why ≡ option_map (λ fault. Verify fault) (the_fault program size))

-- the listing of a source, or the line that refuses it
abbrev pub IsListed : Option ℕ → Bool → List ℕ → List ℕ → Option Refusal → Type 0
IsListed size is_code source text why =
    ((program : CodeView) × GivesCode is_code source program × (places : List ℕ) × ArePlaces is_code source places
    × IsListing size program (origin_in source places) text why)
    ⊎ ((refusal : Refusal) × IsRefused is_code source refusal × (why ≡ Some refusal) × (text ≡ refusal_line refusal))

-- the refusal of what is told
abbrev pub refusal_in : Option Diagnosis → Option Refusal
refusal_in diagnosis = option_map (λ why. why.refusal) diagnosis

-- This is told of code that is listed and refused: the part of the text that gave the instruction, and the range that the verifier
-- knows there.
abbrev pub IsDiagnosisOfCode : Option ℕ → CodeView → List ℕ → Diagnosis → Type 0
IsDiagnosisOfCode None program places diagnosis = ⊥
IsDiagnosisOfCode (Some size) program places diagnosis = IsUnsafe program size diagnosis.refusal × TellsOfCode program places size diagnosis

-- This is told of a source that is listed and refused.
abbrev pub IsDiagnosisOfListing : Option ℕ → Bool → List ℕ → Diagnosis → Type 0
IsDiagnosisOfListing size is_code source diagnosis =
    (IsRefused is_code source diagnosis.refusal × TellsOfSource is_code source diagnosis)
    ⊎ ((program : CodeView) × GivesCode is_code source program
    × ((places : List ℕ) × ArePlaces is_code source places × IsDiagnosisOfCode size program places diagnosis))

-- The report on a source that is listed, of which people are told why it is refused, if it is.
pub record IsListReport (size : Option ℕ) (is_code : Bool) (wording : Wording) (source : Named) (report : ReportView) : Type 0 where
  pub why : Option Diagnosis
  pub is_listed : IsListed size is_code source.text report.out (refusal_in why)
  pub diagnosed : IfSome why (IsDiagnosisOfListing size is_code source.text)
  pub told : IsNoticeIf wording source why report.err
  pub ends : report.status ≡ status_of_found (is_some why)
