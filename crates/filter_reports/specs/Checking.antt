-- What comes of a source that is checked (this project's own choice).
use Rattle.std.specs.Prelude.{◌≡◌, ◌⊎◌, ◌<◌, ◌≤◌, ◌+◌, ◌++◌, ℕ, Bool, true, false, List, [], length, Option, Some, None, Result, Ok, Err, IfOk, IfErr, ⊤}
use Rattle.std.specs.Io.KnownBytes.{Appends, Consumes}
use Rattle.filter_code.specs.CodeView.{CodeView}
use Rattle.filter_source.specs.Limits.{source_limit}
use Rattle.filter_source.specs.BoundsLine.{bounds_line}
use Rattle.filter_source.specs.Diagnoses.{TellsOfCode, TellsOfSource, of_code}
use Rattle.filter_source.specs.Refusals.{place_in_line, refusal_code}
use Rattle.filter_source.specs.Sources.{IsUnsafe}
use Rattle.filter_source.specs.TextPlaces.{ArePlacesOf}
use Rattle.filter_source.specs.declared.diagnosis.Diagnosis.{Diagnosis}
use Rattle.filter_tokens.specs.Tokenization.{IsTokenization}
use Rattle.filter_tokens.specs.declared.token.Token.{Token}
use Rattle.filter_verifier.specs.Faults.{fault_code, fault_place}
use Rattle.filter_verifier.specs.FirstFault.{the_fault}
use Rattle.filter_verifier.specs.InStates.{in_state}
use Rattle.filter_verifier.specs.Safe.{IsSafe}
use Rattle.filter_verifier.specs.Surveys.{surveyed}
use Rattle.filter_verifier.specs.Sweep.{state_at}
use Rattle.filter_verifier.specs.Verdicts.{IsVerdict}
use Rattle.filter_verifier.specs.declared.fault.Unverified.{Unverified}
use Rattle.filter_verifier.specs.declared.survey.RunBounds.{RunBounds}
use Rattle.filter_verifier.specs.declared.survey.Survey.{Survey}
use Rattle.line_protocol.specs.Answers.{refusal}
use Rattle.line_protocol.specs.Runs.{AppendsFront}
use Rattle.line_protocol.specs.declared.faults.StreamFault.{StreamFault}
use Rattle.line_protocol.specs.declared.faults.StreamFault.TheVariants.{Read, Write, Memory, TooLong}
use Rattle.filter_reports.specs.Check.{AreLines, GivesCode, IsRefused, LinesView}
use Rattle.filter_reports.specs.declared.check.Checked.{Checked}
use Rattle.filter_reports.specs.declared.check.SurveyedSource.{SurveyedSource}

-- how many refusals there are
abbrev pub refusals_of : Option Diagnosis → ℕ
refusals_of None = 0
refusals_of (Some diagnosis) = 1

-- the last line of what was written tells the refusal, where there is one
abbrev pub EndsWith : Option Diagnosis → List ℕ → Type 0
EndsWith None text = ⊤
EndsWith (Some diagnosis) text =
    (front : List ℕ) × (text ≡ front ++ refusal (refusal_code diagnosis.refusal) (place_in_line diagnosis.refusal 1))

-- Lines on code end so: with the bounds that are found, or with the first thing that is not known, and this is told of it.
abbrev pub EndsLines : List ℕ → Result RunBounds Unverified → List ℕ → List ℕ → Option Diagnosis → Type 0
EndsLines places (Ok bounds) front text diagnosis = (text ≡ front ++ bounds_line bounds.budget bounds.depth) × (diagnosis ≡ None)
EndsLines places (Err found) front text diagnosis =
    (text ≡ front ++ refusal (fault_code found.fault) (fault_place found.fault)) × (diagnosis ≡ Some (of_code found.fault found.range places))

-- The places in a source that the instructions of its code come from: a code file has none.
abbrev pub ArePlaces : Bool → List ℕ → List ℕ → Type 0
ArePlaces true source places = places ≡ []
ArePlaces false source places = ArePlacesOf source places

-- The tokens that cut a filter's text: a code file has none.
abbrev pub AreTokens : Bool → List ℕ → List Token → Type 0
AreTokens true source tokens = tokens ≡ []
AreTokens false source tokens = IsTokenization tokens 0 source

-- This is told of a source that is refused: what follows from the refusal where there is no code, and what stands round its place; otherwise the part of the text that
-- gave the instruction which is refused, and the range that the verifier knows there.
abbrev pub IsDiagnosis : ℕ → Bool → List ℕ → Diagnosis → Type 0
IsDiagnosis size is_code source diagnosis =
    (IsRefused is_code source diagnosis.refusal × TellsOfSource is_code source diagnosis)
    ⊎ ((program : CodeView) × GivesCode is_code source program × IsUnsafe program size diagnosis.refusal
    × ((places : List ℕ) × ArePlaces is_code source places × TellsOfCode program places size diagnosis))

-- This is what the verifier knows of a code, up to the instruction that it refuses, and its verdict.
pub record Knows (program : CodeView) (size : ℕ) (survey : Survey) : Type 0 where
  pub each : (k : ℕ) → k < length survey.in_states.items → state_at survey.in_states.items k ≡ in_state program size k
  pub count : length survey.in_states.items ≡ surveyed program size (the_fault program size)
  pub verdict : IsVerdict program size survey.verdict

-- The source gives this code, which is surveyed for domains of a size.
pub record IsSurvey (size : ℕ) (is_code : Bool) (source : List ℕ) (found : SurveyedSource) : Type 0 where
  pub gives : GivesCode is_code source found.code
  pub places : ArePlaces is_code source found.places.items
  pub tokens : AreTokens is_code source found.tokens.items
  pub known : Knows found.code size found.survey

-- And its code never goes wrong in domains of the size.
pub record IsVerifiedSource (size : ℕ) (is_code : Bool) (source : List ℕ) (found : SurveyedSource) : Type 0 where
  pub survey : IsSurvey size is_code source found
  pub faultless : the_fault found.code size ≡ None
  pub safe : IsSafe found.code size

-- the code of a source, unless this says why it is refused
abbrev pub judged : SurveyedSource → Option Diagnosis → Result SurveyedSource Diagnosis
judged found None = Ok found
judged found (Some why) = Err why

-- why it is refused, if it is
abbrev pub why_in : Result SurveyedSource Diagnosis → Option Diagnosis
why_in (Ok found) = None
why_in (Err why) = Some why

-- the lines of a source that is checked, and how many of them refuse it
abbrev pub checked_lines : Checked → LinesView
checked_lines checked = record { text = checked.lines.items; refusals = refusals_of (why_in checked.verdict) }

-- The source is checked: these are its lines, the last of which tells why it is refused, if it is; and otherwise its code is verified.
pub record IsChecked (size : ℕ) (is_code : Bool) (source : List ℕ) (checked : Checked) : Type 0 where
  pub lines : AreLines size is_code source (checked_lines checked)
  pub ends : EndsWith (why_in checked.verdict) checked.lines.items
  pub diagnosed : IfErr checked.verdict (IsDiagnosis size is_code source)
  pub verified : IfOk checked.verdict (IsVerifiedSource size is_code source)

-- An input was read and checked to its end: the lines on it were written, and nothing else. `input` is all that the reader had, `left` what it has now;
-- `held` and `holds` are what the writer held before and holds now; `refused` is the number that was returned.
pub record Checks (size : ℕ) (is_code : Bool) (input : List ℕ) (left held holds : Option (List ℕ)) (refused : ℕ) : Type 0 where
  pub lines : LinesView
  pub are_lines : AreLines size is_code input lines
  pub written : Appends held holds lines.text
  pub counted : refused ≡ lines.refusals
  pub read : List ℕ
  pub consumed : Consumes (Some input) left read
  -- nothing is read after the first byte over the limit
  pub within : length read ≤ source_limit + 1
  pub to_end : length input ≤ source_limit → left ≡ Some []

-- what was written where a fault ended the run: nothing; a writer that failed has a front of the lines
abbrev pub IsCutOff : StreamFault → ℕ → Bool → List ℕ → Option (List ℕ) → Option (List ℕ) → Type 0
IsCutOff Read size is_code input held holds = Appends held holds []
IsCutOff Write size is_code input held holds = (lines : LinesView) × AreLines size is_code input lines × AppendsFront held holds lines.text
IsCutOff Memory size is_code input held holds = Appends held holds []
IsCutOff TooLong size is_code input held holds = ⊥

-- A fault ended the run. The names are those of `Checks`.
pub record ChecksOff (fault : StreamFault) (size : ℕ) (is_code : Bool) (input : List ℕ) (left held holds : Option (List ℕ)) : Type 0 where
  pub written : IsCutOff fault size is_code input held holds
  pub read : List ℕ
  pub consumed : Consumes (Some input) left read
  pub within : length read ≤ source_limit + 1
