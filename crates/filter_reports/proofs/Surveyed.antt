-- What is said of code that is surveyed.
use Rattle.std.proofs.Common.{◌≡◌, ℕ, Bool, List, [], ◌∷◌, ◌++◌, All, Option, Some, None, inr, refl, sym, ap, ◌∙◌, arith}
use Rattle.std.proofs.lemmas.List.Elements.{All-from_recursion}
use Rattle.std.specs.Prelude.{IfErr, IfOk, Result, Ok, Err, ⊤}
use Rattle.std.specs.List.{AllByRecursion}
use Rattle.code_file.specs.Spelling.{FitsField, IsCode, IsInstruction}
use Rattle.code_file.specs.declared.version.Version.TheVariants as version
use Rattle.filter_code.specs.CodeView.{CodeView}
use Rattle.filter_code.specs.Table.{literal_of}
use Rattle.filter_code.specs.declared.instruction.Instr.{Instr}
use Rattle.filter_code.specs.declared.instruction.Instr.TheVariants as instr
use Rattle.filter_source.specs.BoundsLine.{bounds_line}
use Rattle.filter_source.specs.Diagnoses.{of_code}
use Rattle.filter_source.specs.VerifiedLine.{verified_line}
use Rattle.filter_source.specs.declared.diagnosis.Diagnosis.{Diagnosis}
use Rattle.filter_verifier.proofs.Sound.{safe_code}
use Rattle.filter_verifier.specs.Bounds.{cost}
use Rattle.filter_verifier.specs.FirstFault.{the_fault}
use Rattle.filter_verifier.specs.Ranges.{RangeView}
use Rattle.filter_verifier.specs.Safe.{HasLiteral, IsSafe}
use Rattle.filter_verifier.specs.Verdicts.{IsVerdict}
use Rattle.filter_verifier.specs.declared.fault.Unverified.{Unverified}
use Rattle.filter_verifier.specs.declared.fault.VerifyFault.{VerifyFault}
use Rattle.filter_verifier.specs.declared.survey.RunBounds.{RunBounds}
use Rattle.filter_reports.specs.Check.{AreCodeLines, LinesView, code_line, followed_by, verdict_on}
use Rattle.filter_reports.specs.Checking.{EndsLines, EndsWith, IsDiagnosis, IsSurvey, IsVerifiedSource, judged, refusals_of, why_in}
use Rattle.filter_reports.specs.declared.check.SurveyedSource.{SurveyedSource}

-- an operand that fits its field is within the limits of its kind
literal : (i : Instr) → FitsField (literal_of i) → HasLiteral i
literal (instr.Int n) h = h
literal (instr.Bool b) h = tt
literal (instr.Ip a) h = h
literal (instr.Prefix bits) h = h
literal (instr.Load i) h = tt
literal (instr.Store i) h = tt
literal instr.Net h = tt
literal instr.Metric h = tt
literal instr.Received h = tt
literal instr.SetMetric h = tt
literal instr.Add h = tt
literal instr.Sub h = tt
literal instr.Mul h = tt
literal instr.Div h = tt
literal instr.Max h = tt
literal instr.Eq h = tt
literal instr.Lt h = tt
literal instr.Le h = tt
literal instr.Not h = tt
literal instr.Addr h = tt
literal instr.Len h = tt
literal (instr.Mask n) h = tt
literal instr.Within h = tt
literal (instr.Member s) h = tt
literal (instr.InSet s) h = tt
literal (instr.Jump k) h = tt
literal (instr.JumpIfNot k) h = tt
literal instr.Accept h = tt
literal instr.Reject h = tt

each_literal : (instrs : List Instr) → AllByRecursion (IsInstruction version.Two) instrs → AllByRecursion HasLiteral instrs
each_literal [] h = h
each_literal (i ∷ instrs) h = (literal i h.0.0, each_literal instrs h.1)

-- code that has a file, and of which nothing is unknown, never goes wrong
pub safe_file : (program : CodeView) (size : ℕ) → IsCode program → the_fault program size ≡ None → IsSafe program size
safe_file program size h none =
    safe_code program size (All-from_recursion HasLiteral program.instrs (each_literal program.instrs h.each_instr)) none

-- the lines of a text, so many of which refuse
abbrev counted : List ℕ → ℕ → LinesView
counted text n = record { text = text; refusals = n }

-- what is refused has a refusal
refuses : (why : Option Diagnosis) (told : Diagnosis) → why ≡ Some told → refusals_of why ≡ 0 → ⊥
refuses why told is none = let one : 0 ≡ 1 = sym none ∙ ap refusals_of is in omega (arith, one)

-- the lines on a code, and the verdict on it
pub code_lines_end : (size : ℕ) (program : CodeView) (places : List ℕ) (verdict : Result RunBounds Unverified) (text : List ℕ) (why : Option Diagnosis)
    → IsCode program → IsVerdict program size verdict → EndsLines places verdict (code_line program) text why
    → AreCodeLines size program (counted text (refusals_of why))
code_lines_end size program places (Ok b) text why h says ends =
    let line : text ≡ code_line program ++ verified_line program = ends.0 ∙ ap (λ (l : List ℕ). code_line program ++ l)
    (ap (λ (n : ℕ). bounds_line n b.depth) says.1 ∙ ap (bounds_line (cost program.instrs 0)) says.2) in
    record {
      is_code = h;
      lines = ap (λ (t : List ℕ). counted t (refusals_of why)) line
          ∙ ap (λ (w : Option Diagnosis). counted (code_line program ++ verified_line program) (refusals_of w)) ends.1
          ∙ ap (λ (found : Option VerifyFault). followed_by (code_line program) (verdict_on program found)) (sym says.0);
      safe = λ none. safe_file program size h says.0;
    }
code_lines_end size program places (Err e) text why h says ends =
    record {
      is_code = h;
      lines = ap (λ (t : List ℕ). counted t (refusals_of why)) ends.0
          ∙ ap (λ (w : Option Diagnosis). counted (code_line program ++ (verdict_on program (Some e.fault)).text) (refusals_of w)) ends.1
          ∙ ap (λ (found : Option VerifyFault). followed_by (code_line program) (verdict_on program found)) (sym says.0);
      safe = λ none. absurd (refuses why (of_code e.fault e.range places) ends.1 none);
    }

-- the last of them tells why it is refused, if it is
pub refusal_ends : (places front : List ℕ) (verdict : Result RunBounds Unverified) (text : List ℕ) (why : Option Diagnosis)
    → EndsLines places verdict front text why → EndsWith why text
refusal_ends places front (Ok b) text why ends = rw ends.1 tt
refusal_ends places front (Err e) text why ends = rw ends.1 (front, ends.0)

-- why a source is refused whose code is
pub refused_survey : (size : ℕ) (is_code : Bool) (source : List ℕ) (found : SurveyedSource) (verdict : Result RunBounds Unverified)
    (front text : List ℕ) (why : Option Diagnosis) → IsSurvey size is_code source found → IsVerdict found.code size verdict
    → EndsLines found.places.items verdict front text why → IfErr (judged found why) (IsDiagnosis size is_code source)
refused_survey size is_code source found (Ok b) front text why is says ends = rw ends.1 tt
refused_survey size is_code source found (Err e) front text why is says ends =
    rw ends.1 (inr (
      found.code,
      is.gives,
      (e.fault, refl, says.0),
      (found.places.items, is.places, (e.fault, ap (λ (range : Option RangeView). of_code e.fault range found.places.items) says.1)),
    ))

-- and otherwise its code never goes wrong
pub verified_survey : (size : ℕ) (is_code : Bool) (source : List ℕ) (found : SurveyedSource) (verdict : Result RunBounds Unverified)
    (front text : List ℕ) (why : Option Diagnosis) → IsCode found.code → IsSurvey size is_code source found → IsVerdict found.code size verdict
    → EndsLines found.places.items verdict front text why → IfOk (judged found why) (IsVerifiedSource size is_code source)
verified_survey size is_code source found (Ok b) front text why h is says ends =
    rw ends.1 (record { survey = is; faultless = says.0; safe = safe_file found.code size h says.0 })
verified_survey size is_code source found (Err e) front text why h is says ends = rw ends.1 tt

-- a source is refused where what comes of it says so
pub why_judged : (found : SurveyedSource) (why : Option Diagnosis) → why_in (judged found why) ≡ why
why_judged found None = refl
why_judged found (Some why) = refl
