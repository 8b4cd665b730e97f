-- What comes of a filter that is linted. (This project's own choice.)
use Rattle.std.specs.Prelude.{◌≡◌, ◌⊎◌, ℕ, ◌+◌, ◌&&◌, Bool, true, false, if◌then◌else◌, List, [], All, String, length, nat_lt}
use Rattle.std.specs.declared.alloc.Global.{Global}
use Rattle.filter_code.specs.CodeView.{CodeView}
use Rattle.filter_diff.specs.Parts.{IsEnough}
use Rattle.filter_reports.specs.Checking.{IsDiagnosis}
use Rattle.filter_syntax.specs.SyntaxText.{FilterView}
use Rattle.filter_source.specs.TextPlaces.{ArePlacesOf}
use Rattle.filter_source.specs.declared.diagnosis.Diagnosis.{Diagnosis}
use Rattle.filter_reports.specs.VerifiedFilters.{IsFilterOf}
use Rattle.filter_reports.specs.Notices.{Named, words_or_line}
use Rattle.filter_reports.specs.Reports.{ReportView}
use Rattle.filter_reports.specs.Refusing.{IsRefusalReport}
use Rattle.report_formats.specs.declared.format.Format.{Format}
use Rattle.report_formats.specs.declared.options.LintOptions.{LintOptions}
use Rattle.filter_lint.specs.Allowing.{shown_host_bits, shown_of}
use Rattle.filter_lint.specs.HostBits.{AreHostBits}
use Rattle.filter_lint.specs.Rules.{AreFound}
use Rattle.filter_lint.specs.Truths.{IsTrueOf}
use Rattle.filter_lint.specs.WarningLines.{host_bits_text, warnings_text}
use Rattle.filter_lint.specs.declared.host_bits.HostBits.{HostBits}
use Rattle.filter_lint.specs.declared.rules.Warnings.{Warnings}

-- the exit status by how many warnings are said, and by whether all was looked for
abbrev pub status_of_warnings : ℕ → Bool → ℕ
status_of_warnings count is_decided = if nat_lt 0 count then 1 else if is_decided then 0 else 3

-- These are the lines of the warnings of a filter's code and of the prefixes of its text that have host bits, but for what is allowed, and the exit
-- status by them. Each of the warnings is true of the code. All routes were tried where the limit leaves out no class of them.
pub record WarnsOf (format : Format) (size limit : ℕ) (allowed : List (String Global)) (asks_order : Bool) (program : CodeView) (places : List ℕ)
    (source : Named) (lines : List ℕ) (status : ℕ) : Type 0 where
  pub all : Warnings
  pub are_found : AreFound program source.text places size asks_order all
  pub are_true : All (IsTrueOf program size places) all.found.items
  pub decided : IsEnough size limit → all.is_complete ≡ true
  pub ordered : IsEnough size limit → all.is_ordered ≡ true
  pub host_bits : List HostBits
  pub are_host_bits : AreHostBits source.text host_bits
  pub lines_are : lines ≡ warnings_text format source.name source.text program.sets (shown_of allowed source.text all.found.items)
      (shown_host_bits allowed source.text host_bits) all.is_complete all.is_ordered
  pub ends : status ≡ status_of_warnings (length (shown_of allowed source.text all.found.items) + length (shown_host_bits allowed source.text host_bits))
      (all.is_complete && all.is_ordered)

-- The text spells a filter whose code never goes wrong in domains of the size, and this report has the warnings of this code, each at the place of
-- the text that its instruction comes from.
pub record LintsFilter (how : LintOptions) (source : Named) (report : ReportView) : Type 0 where
  pub filter : FilterView
  pub is_filter : IsFilterOf source.text how.size filter
  pub places : List ℕ
  pub are_places : ArePlacesOf source.text places
  pub warns : WarnsOf how.format how.size how.limit how.allowed.items how.asks_order is_filter.program places source report.out report.status
  pub told : report.err ≡ []

-- This is the report on a text: it is refused; or these are its warnings.
abbrev pub IsLintReport : LintOptions → Named → ReportView → Type 0
IsLintReport how source report =
    ((why : Diagnosis) × IsDiagnosis how.size false source.text why
    × IsRefusalReport how.format (words_or_line how.is_explained) source why report × (report.status ≡ 1))
    ⊎ LintsFilter how source report

-- These are the lines of the prefixes of a text that have host bits, as they are among those of its warnings where no code is allowed.
pub record AreHostBitsLines (format : Format) (source : Named) (lines : List ℕ) : Type 0 where
  pub host_bits : List HostBits
  pub are_host_bits : AreHostBits source.text host_bits
  pub lines_are : lines ≡ host_bits_text format source.name source.text (shown_host_bits [] source.text host_bits)
