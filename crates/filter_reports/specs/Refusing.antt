-- How it is said that a source is refused. (This project's own choice.)
use Rattle.std.specs.Prelude.{◌≡◌, ℕ, Bool, if◌then◌else◌, List, [], Option, Some, None, codes}
use Rattle.std.specs.Option.{option_map}
use Rattle.filter_reports.specs.Notices.{IsNotice, Named}
use Rattle.filter_reports.specs.Reports.{ReportView}
use Rattle.filter_reports.specs.declared.wording.Wording.{Wording}
use Rattle.refusal_words.specs.Places.{column_at, line_at}
use Rattle.refusal_words.specs.Ranges.{EndsInRange}
use Rattle.filter_source.specs.Refusals.{refusal_code}
use Rattle.filter_source.specs.declared.diagnosis.Diagnosis.{Diagnosis}
use Rattle.report_formats.specs.Findings.{FindingView, finding_line}
use Rattle.report_formats.specs.declared.format.Format.{Format}
use Rattle.report_formats.specs.declared.format.Format.TheVariants as formats
use Rattle.report_formats.specs.declared.finding.Severity.TheVariants as severity

-- what a line of JSON says of a refusal in these words
abbrev pub refusal_view : Named → Diagnosis → List ℕ → FindingView
refusal_view source why words = record {
  severity = severity.Error;
  code = Some (refusal_code why.refusal);
  file = source.name;
  line = option_map (line_at source.text) why.byte;
  column = option_map (column_at source.text) why.byte;
  words = words;
}

-- This is the line of JSON on a refusal: in words that end with the range which is told.
abbrev pub IsRefusalFinding : Named → Diagnosis → List ℕ → Type 0
IsRefusalFinding source why line = (words : List ℕ) × EndsInRange why words × (line ≡ finding_line (refusal_view source why words))

-- what it says of a source of this name that is verified
abbrev pub verified_view : List ℕ → FindingView
verified_view name = record {
  severity = severity.Ok;
  code = None;
  file = name;
  line = None;
  column = None;
  words = codes "verified";
}

-- This is the line on a source that was checked: that on its refusal; or that it is verified, where not only refusals are written.
abbrev pub IsCheckFinding : Bool → Named → Option Diagnosis → List ℕ → Type 0
IsCheckFinding is_quiet source None line = line ≡ (if is_quiet then [] else finding_line (verified_view source.name))
IsCheckFinding is_quiet source (Some why) line = IsRefusalFinding source why line

-- This is the report on a source that is refused, whatever its exit status: people are told why, and nothing is written; or a line of JSON is.
abbrev pub IsRefusalReport : Format → Wording → Named → Diagnosis → ReportView → Type 0
IsRefusalReport formats.Text wording source why report = (report.out ≡ []) × IsNotice wording source why report.err
IsRefusalReport formats.Json wording source why report = IsRefusalFinding source why report.out × (report.err ≡ [])
