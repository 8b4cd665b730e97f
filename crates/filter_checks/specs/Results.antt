-- What comes of tests, as it is written. (The lines of the first form are those of the Test Anything Protocol; the words of the others are this
-- project's own choice.)
use Rattle.std.specs.Prelude.{ℕ, List, [], ◌∷◌, ◌++◌, None, Some, codes, flat_map}
use Rattle.filter_diff.specs.declared.checking.ExpectationResult.{ExpectationResult}
use Rattle.filter_diff.specs.declared.checking.ExpectationResult.TheVariants as checked
use Rattle.filter_diff.specs.declared.checking.Counterexample.{Counterexample}
use Rattle.refusal_words.specs.Places.{before_first_feed}
use Rattle.report_formats.specs.Cases.{broken_case, document_end, document_head, failed_case, passed_case}
use Rattle.report_formats.specs.Findings.{FindingView, finding_line}
use Rattle.report_formats.specs.declared.format.TestFormat.{TestFormat}
use Rattle.report_formats.specs.declared.format.TestFormat.TheVariants as formats
use Rattle.report_formats.specs.declared.finding.Severity.{Severity}
use Rattle.report_formats.specs.declared.finding.Severity.TheVariants as severity
use Rattle.filter_checks.specs.Tap.{all_lines, found_text, plan, skipped}
use Rattle.filter_checks.specs.declared.testing.RanTest.{RanTest}

-- how much is wrong with a test
abbrev pub severity_of : ExpectationResult → Severity
severity_of checked.Holds = severity.Ok
severity_of (checked.Fails found) = severity.Error
severity_of checked.Undecided = severity.Undecided

-- what is said of a test that does not hold
abbrev pub failure_words : Counterexample → List ℕ
failure_words found = codes "does not hold: " ++ found_text found

-- what is said of a test behind its line
abbrev pub said : ExpectationResult → List ℕ
said checked.Holds = []
said (checked.Fails found) = codes ": " ++ failure_words found
said checked.Undecided = codes ": undecided"

abbrev pub result_words : RanTest → List ℕ
result_words ran = ran.line.items ++ said ran.checked

-- a report on a line of a file of this name
abbrev pub view_on_line : Severity → List ℕ → ℕ → List ℕ → FindingView
view_on_line how name line words = record {
  severity = how;
  code = None;
  file = name;
  line = Some line;
  column = None;
  words = words;
}

-- that on a test
abbrev pub test_view : List ℕ → RanTest → FindingView
test_view name ran = view_on_line (severity_of ran.checked) name ran.number (result_words ran)

abbrev pub test_report : List ℕ → RanTest → List ℕ
test_report name ran = finding_line (test_view name ran)

-- its element
abbrev pub failure_case : List ℕ → List ℕ → Counterexample → List ℕ
failure_case name line found = failed_case name line (failure_words found)

abbrev pub case_by : List ℕ → List ℕ → ExpectationResult → List ℕ
case_by name line checked.Holds = passed_case name line
case_by name line (checked.Fails found) = failure_case name line found
case_by name line checked.Undecided = broken_case name line (codes "undecided")

abbrev pub case_of : List ℕ → RanTest → List ℕ
case_of name ran = case_by name ran.line.items ran.checked

-- what is written of the tests of a file of this name, before which the stream has so many others
abbrev pub results_in : TestFormat → List ℕ → ℕ → List RanTest → List ℕ
results_in formats.Tap name before all = all_lines before all
results_in formats.Json name before all = flat_map (test_report name) all
results_in formats.Junit name before all = flat_map (case_of name) all

-- what is said of a file whose tests were not run, by what people are told of the reason: the first line of that
abbrev pub not_run_words : List ℕ → List ℕ
not_run_words diagnosis = codes "not run: " ++ before_first_feed diagnosis

abbrev pub skipped_view : List ℕ → List ℕ → FindingView
skipped_view name words = record {
  severity = severity.Undecided;
  code = None;
  file = name;
  line = None;
  column = None;
  words = words;
}

-- what is written in their place: a line, a report, or an element
abbrev pub skipped_in : TestFormat → ℕ → List ℕ → List ℕ → List ℕ
skipped_in formats.Tap number name diagnosis = skipped number name (not_run_words diagnosis)
skipped_in formats.Json number name diagnosis = finding_line (skipped_view name (not_run_words diagnosis))
skipped_in formats.Junit number name diagnosis = broken_case name name (not_run_words diagnosis)

-- what is written before all tests, and behind them by their number
unfoldable pub version_line : List ℕ
version_line = codes "TAP version 13" ++ 10 ∷ []

abbrev pub head_in : TestFormat → List ℕ
head_in formats.Tap = version_line
head_in formats.Json = []
head_in formats.Junit = document_head

abbrev pub end_in : TestFormat → ℕ → List ℕ
end_in formats.Tap count = plan count
end_in formats.Json count = []
end_in formats.Junit count = document_end
