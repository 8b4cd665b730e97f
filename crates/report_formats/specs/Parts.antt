-- The line of a part of the routes. (This project's own choice.)
use Rattle.std.specs.Prelude.{ℕ, List, Option, codes}
use Rattle.std.specs.Option.{option_map}
use Rattle.serde_json.specs.Data.{Data, member, no_members, number, object, string, unsigned}
use Rattle.report_formats.specs.Lines.{json_line, readable}
use Rattle.report_formats.specs.Findings.{severity_word}
use Rattle.report_formats.specs.Values.{text_or_null}
use Rattle.report_formats.specs.declared.part.PartReport.{PartReport}
use Rattle.report_formats.specs.declared.finding.Severity.{Severity}

-- what is said of the routes within a prefix, of these lengths and metrics: what the older filter does with them, and what the newer one does
pub record PartView : Type 0 where
  pub severity : Severity
  pub prefix : List ℕ
  pub shortest : ℕ
  pub longest : ℕ
  pub least : ℕ
  pub greatest : ℕ
  pub before : Option (List ℕ)
  pub after : Option (List ℕ)
  pub words : List ℕ

abbrev pub part_view : PartReport → PartView
part_view part = record {
  severity = part.severity;
  prefix = part.prefix.now;
  shortest = part.shortest;
  longest = part.longest;
  least = part.least;
  greatest = part.greatest;
  before = option_map (λ text. text.now) part.before;
  after = option_map (λ text. text.now) part.after;
  words = part.words.now;
}

-- it as an object: each of these under its name, in the order of the names
abbrev pub part_data : PartView → Data
part_data part = object (member (codes "after") (text_or_null part.after)
    (member (codes "before") (text_or_null part.before)
    (member (codes "greatest") (number (unsigned part.greatest))
    (member (codes "least") (number (unsigned part.least))
    (member (codes "longest") (number (unsigned part.longest))
    (member (codes "prefix") (string (readable part.prefix))
    (member (codes "severity") (string (severity_word part.severity))
    (member (codes "shortest") (number (unsigned part.shortest))
    (member (codes "words") (string (readable part.words)) no_members)))))))))

-- its line
abbrev pub part_line : PartView → List ℕ
part_line part = json_line (part_data part)
