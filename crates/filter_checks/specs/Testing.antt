-- What comes of the tests of a file. (This project's own choice.)
use Rattle.std.specs.Prelude.{◌≡◌, ◌≢◌, ◌⊎◌, ◌+◌, ℕ, false, if◌then◌else◌, List, [], ◌∷◌, count_by, length, nat_lt, ⊤}
use Rattle.filter_code.specs.CodeView.{CodeView}
use Rattle.filter_reports.specs.Checking.{IsDiagnosis}
use Rattle.filter_diff.specs.Expectations.{IsFoundOf}
use Rattle.filter_diff.specs.Parts.{IsEnough}
use Rattle.filter_diff.specs.declared.checking.ExpectationResult.TheVariants as checked
use Rattle.filter_syntax.specs.SyntaxText.{FilterView}
use Rattle.filter_source.specs.declared.diagnosis.Diagnosis.{Diagnosis}
use Rattle.filter_reports.specs.VerifiedFilters.{IsFilterOf}
use Rattle.filter_reports.specs.Notices.{IsNotice, Named, words_or_line}
use Rattle.filter_reports.specs.Reports.{ReportView}
use Rattle.filter_reports.specs.declared.wording.Wording.TheVariants.{Words}
use Rattle.filter_checks.specs.Files.{FileView, TestView}
use Rattle.report_formats.specs.declared.options.TestOptions.{TestOptions}
use Rattle.filter_checks.specs.Results.{results_in, skipped_in}
use Rattle.filter_checks.specs.Tap.{is_undecided, is_wrong, failures_of}
use Rattle.filter_checks.specs.declared.testing.RanTest.{RanTest}

-- what is found of a test by the code of the filter; something, where the limit leaves out no class of routes
pub record IsRun (program : CodeView) (size limit : ℕ) (test : TestView) (ran : RanTest) : Type 0 where
  pub number : ran.number ≡ test.number
  pub line : ran.line.items ≡ test.line
  pub found : IsFoundOf program size test.expected ran.checked
  pub decided : IsEnough size limit → ran.checked ≢ checked.Undecided

-- and of each of some tests, in order
abbrev pub AreRun : CodeView → ℕ → ℕ → List TestView → List RanTest → Type 0
AreRun program size limit [] [] = ⊤
AreRun program size limit (test ∷ tests) (ran ∷ others) = IsRun program size limit test ran × AreRun program size limit tests others
AreRun program size limit [] (ran ∷ others) = ⊥
AreRun program size limit (test ∷ tests) [] = ⊥

-- the exit status by how many tests do not hold, and of how many it is not decided
abbrev pub status_of_tests : ℕ → ℕ → ℕ
status_of_tests wrong undecided = if nat_lt 0 wrong then 1 else if nat_lt 0 undecided then 3 else 0

-- the report on tests that were run; `before` is the number of tests before these in the stream
abbrev pub report_on : TestOptions → ℕ → List ℕ → List RanTest → ReportView
report_on how before name all = record {
  out = results_in how.format name before all;
  err = failures_of how.is_explained name all;
  status = status_of_tests (count_by is_wrong all) (count_by is_undecided all);
}

-- The tests of a file were run by the code of its filter, and this is the report on them. `count` is the number of tests in the stream then.
pub record RunsTests (how : TestOptions) (before : ℕ) (program : CodeView) (name : List ℕ) (file : FileView) (report : ReportView) (count : ℕ)
    : Type 0 where
  pub all : List RanTest
  pub are_run : AreRun program file.size how.limit file.tests all
  pub is_report : report ≡ report_on how before name all
  pub counted : count ≡ before + length file.tests

-- None was run, which people are told in `told`, and the first line of `why` says the reason: in the stream that is one test, which is not decided.
pub record SkipsTests (how : TestOptions) (before : ℕ) (name told why : List ℕ) (report : ReportView) (count : ℕ) : Type 0 where
  pub is_report : report ≡ record { out = skipped_in how.format (before + 1) name why; err = told; status = 3 }
  pub counted : count ≡ before + 1

-- None was, since the filter is refused for this reason.
abbrev pub RefusesTests : TestOptions → ℕ → List ℕ → Named → Diagnosis → ReportView → ℕ → Type 0
RefusesTests how before name filter why report count = (told : List ℕ) × IsNotice (words_or_line how.is_explained) filter why told
    × (words : List ℕ) × IsNotice Words filter why words × SkipsTests how before name told words report count

-- The filter's text spells a filter, and this is the report on the tests of its code; or it is refused.
abbrev pub IsTestReport : TestOptions → ℕ → List ℕ → FileView → Named → ReportView → ℕ → Type 0
IsTestReport how before name file filter report count =
    ((why : Diagnosis) × IsDiagnosis file.size false filter.text why × RefusesTests how before name filter why report count)
    ⊎ ((f : FilterView) × (is_f : IsFilterOf filter.text file.size f) × RunsTests how before is_f.program name file report count)
