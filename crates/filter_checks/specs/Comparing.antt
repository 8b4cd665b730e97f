-- What is said of two filters that are compared. (This project's own choice.)
use Rattle.std.specs.Prelude.{◌≡◌, ◌≢◌, ◌⊎◌, ℕ, false, List, [], All, Option, Some, None}
use Rattle.filter_code.specs.CodeView.{CodeView}
use Rattle.filter_reports.specs.Checking.{IsDiagnosis}
use Rattle.filter_diff.specs.Answers.{answer_of}
use Rattle.filter_diff.specs.declared.answer.Comparison.{Comparison}
use Rattle.filter_diff.specs.declared.answer.Comparison.TheVariants as answer
use Rattle.filter_diff.specs.declared.route_part.RoutePart.{RoutePart}
use Rattle.filter_syntax.specs.SyntaxText.{FilterView}
use Rattle.filter_source.specs.declared.diagnosis.Diagnosis.{Diagnosis}
use Rattle.filter_reports.specs.VerifiedFilters.{IsFilterOf}
use Rattle.filter_reports.specs.Notices.{Named, words_or_line}
use Rattle.filter_reports.specs.Reports.{ReportView, followed_by}
use Rattle.filter_reports.specs.Refusing.{IsRefusalReport}
use Rattle.report_formats.specs.declared.options.DiffOptions.{DiffOptions}
use Rattle.filter_differences.specs.Differences.{AreParts}
use Rattle.filter_checks.specs.PartReports.{parts_in}

-- This is told of a text: nothing where it spells a filter whose code never goes wrong in domains of the size, and otherwise why it
-- is refused.
abbrev pub IsJudged : ℕ → List ℕ → Option Diagnosis → Type 0
IsJudged size text None = (filter : FilterView) × IsFilterOf text size filter
IsJudged size text (Some diagnosis) = IsDiagnosis size false text diagnosis

-- the exit status: 0 where the two do the same on all routes, 1 where they differ
abbrev pub status_of_comparison : Comparison → ℕ
status_of_comparison answer.Same = 0
status_of_comparison answer.Differ = 1
status_of_comparison answer.Undecided = 3

-- This is the report on two codes that are compared: the lines of such parts, and nothing is told.
pub record IsPartsReport (how : DiffOptions) (name : List ℕ) (old new : CodeView) (size : ℕ) (report : ReportView) : Type 0 where
  pub parts : List RoutePart
  pub are_parts : AreParts old new size how.limit parts
  pub written : report.out ≡ parts_in how.format name size parts
  pub told : report.err ≡ []
  pub ends : report.status ≡ status_of_comparison (answer_of parts)

-- It says why a source is refused, if it is.
abbrev pub IsRefusalIf : DiffOptions → Named → Option Diagnosis → ReportView → Type 0
IsRefusalIf how source None report = (report.out ≡ []) × (report.err ≡ [])
IsRefusalIf how source (Some why) report = IsRefusalReport how.format (words_or_line how.is_explained) source why report

-- It says so of one text, and then of another, and nothing is known of what they do.
pub record RefusesBoth (how : DiffOptions) (old new : Named) (before after : Option Diagnosis) (report : ReportView) : Type 0 where
  pub first : ReportView
  pub second : ReportView
  pub old_said : IsRefusalIf how old before first
  pub new_said : IsRefusalIf how new after second
  pub both : report ≡ followed_by first second
  pub ends : report.status ≡ 3

-- Two texts were judged, at least one of which is refused.
pub record AreRefused (size : ℕ) (old new : Named) (before after : Option Diagnosis) : Type 0 where
  pub old_judged : IsJudged size old.text before
  pub new_judged : IsJudged size new.text after
  pub refused : before ≡ None → after ≢ None

-- The texts spell filters, and this is the report on the comparison of their codes; or a text is refused, of which it says why.
abbrev pub IsDiffReport : DiffOptions → Named → Named → ReportView → Type 0
IsDiffReport how old new report =
    ((before : Option Diagnosis) × (after : Option Diagnosis) × AreRefused how.size old new before after × RefusesBoth how old new before after report)
    ⊎ ((f : FilterView) × (is_f : IsFilterOf old.text how.size f) × (g : FilterView) × (is_g : IsFilterOf new.text how.size g)
    × IsPartsReport how new.name is_f.program is_g.program how.size report)
