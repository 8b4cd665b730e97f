-- The line of a finding. (This project's own choice.)
use Rattle.std.specs.Prelude.{ℕ, List, Option, codes}
use Rattle.std.specs.Option.{option_map}
use Rattle.serde_json.specs.Data.{Data, member, no_members, object, string}
use Rattle.report_formats.specs.Lines.{json_line, readable}
use Rattle.report_formats.specs.Values.{number_or_null, text_or_null}
use Rattle.report_formats.specs.declared.finding.Finding.{Finding}
use Rattle.report_formats.specs.declared.finding.Severity.{Severity}
use Rattle.report_formats.specs.declared.finding.Severity.TheVariants as severity

-- the word for a severity
abbrev pub severity_word : Severity → List ℕ
severity_word severity.Ok = codes "ok"
severity_word severity.Warning = codes "warning"
severity_word severity.Error = codes "error"
severity_word severity.Undecided = codes "undecided"

-- what a finding says: of which file, at which line and column, under which code, and in words
pub record FindingView : Type 0 where
  pub severity : Severity
  pub code : Option (List ℕ)
  pub file : List ℕ
  pub line : Option ℕ
  pub column : Option ℕ
  pub words : List ℕ

abbrev pub finding_view : Finding → FindingView
finding_view finding = record {
  severity = finding.severity;
  code = option_map (λ code. code.now) finding.code;
  file = finding.file.now;
  line = finding.line;
  column = finding.column;
  words = finding.words.now;
}

-- it as an object: each of these under its name, in the order of the names
abbrev pub finding_data : FindingView → Data
finding_data finding = object (member (codes "code") (text_or_null finding.code)
    (member (codes "column") (number_or_null finding.column)
    (member (codes "file") (string (readable finding.file))
    (member (codes "line") (number_or_null finding.line)
    (member (codes "severity") (string (severity_word finding.severity))
    (member (codes "words") (string (readable finding.words)) no_members))))))

-- its line
abbrev pub finding_line : FindingView → List ℕ
finding_line finding = json_line (finding_data finding)
