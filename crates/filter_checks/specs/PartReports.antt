-- Parts of the routes as they are written: in lines for people, or in lines of JSON. (This project's own choice.)
use Rattle.std.specs.Prelude.{ℕ, ◌-◌, ◌==◌, List, [], ◌++◌, Option, Some, None, count_by, flat_map, if◌then◌else◌, length, take}
use Rattle.filter_diff.specs.Answers.{answer_of, undecided}
use Rattle.filter_diff.specs.declared.answer.Comparison.{Comparison}
use Rattle.filter_diff.specs.declared.answer.Comparison.TheVariants as answer
use Rattle.filter_diff.specs.declared.ending.RunEnding.{RunEnding}
use Rattle.filter_diff.specs.declared.route_part.PartFinding.{PartFinding}
use Rattle.filter_diff.specs.declared.route_part.PartFinding.TheVariants as finding
use Rattle.filter_diff.specs.declared.route_part.RoutePart.{RoutePart}
use Rattle.prefix_patterns.specs.Spelling.{prefix_text}
use Rattle.report_formats.specs.Parts.{PartView, part_line as json_part}
use Rattle.report_formats.specs.Findings.{FindingView, finding_line}
use Rattle.report_formats.specs.declared.format.Format.{Format}
use Rattle.report_formats.specs.declared.format.Format.TheVariants as formats
use Rattle.report_formats.specs.declared.finding.Severity.{Severity}
use Rattle.report_formats.specs.declared.finding.Severity.TheVariants as severity
use Rattle.filter_differences.specs.PartLines.{ending_text, hidden_words, last_words, part_words, parts_text, shown_limit}

-- how much is wrong with a part, and with a comparison
abbrev pub severity_of : PartFinding → Severity
severity_of finding.Undecided = severity.Undecided
severity_of (finding.Differ before after) = severity.Error

abbrev pub severity_of_answer : Comparison → Severity
severity_of_answer answer.Same = severity.Ok
severity_of_answer answer.Differ = severity.Error
severity_of_answer answer.Undecided = severity.Undecided

-- the report on a part, with which the filters do this
abbrev pub view_with : RoutePart → Option (List ℕ) → Option (List ℕ) → PartView
view_with part before after = record {
  severity = severity_of part.finding;
  prefix = prefix_text part.prefix;
  shortest = part.shortest;
  longest = part.longest;
  least = part.least;
  greatest = part.greatest;
  before = before;
  after = after;
  words = part_words part;
}

abbrev pub report_with : RoutePart → Option (List ℕ) → Option (List ℕ) → List ℕ
report_with part before after = json_part (view_with part before after)

abbrev pub difference : RoutePart → RunEnding → RunEnding → List ℕ
difference part before after = report_with part (Some (ending_text before)) (Some (ending_text after))

abbrev pub report_by : RoutePart → PartFinding → List ℕ
report_by part finding.Undecided = report_with part None None
report_by part (finding.Differ before after) = difference part before after

abbrev pub part_report : RoutePart → List ℕ
part_report part = report_by part part.finding

-- a report on the whole comparison, under the name of the newer filter
abbrev pub whole_view : List ℕ → Comparison → List ℕ → FindingView
whole_view name found words = record {
  severity = severity_of_answer found;
  code = None;
  file = name;
  line = None;
  column = None;
  words = words;
}

-- how many parts have no report, and what is said of all other routes
abbrev pub hidden_report : List ℕ → Comparison → ℕ → List ℕ
hidden_report name found count = if count == 0 then [] else finding_line (whole_view name found (hidden_words count))

abbrev pub last_report : List ℕ → ℕ → List RoutePart → List ℕ
last_report name size parts = finding_line (whole_view name (answer_of parts) (last_words size (count_by undecided parts) parts))

-- the reports on the parts, and the last ones
abbrev pub parts_reports : List ℕ → ℕ → List RoutePart → List ℕ
parts_reports name size parts = flat_map part_report (take shown_limit parts)
    ++ hidden_report name (answer_of parts) (length parts - shown_limit) ++ last_report name size parts

-- what is written of parts
abbrev pub parts_in : Format → List ℕ → ℕ → List RoutePart → List ℕ
parts_in formats.Text name size parts = parts_text size parts
parts_in formats.Json name size parts = parts_reports name size parts
