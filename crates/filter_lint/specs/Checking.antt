-- What `check` says of a source. (This project's own choice.)
use Rattle.std.specs.Prelude.{◌≡◌, ◌⊎◌, ℕ, Bool, true, false, if◌then◌else◌, is_some, List, [], Option, Some, None}
use Rattle.filter_syntax.specs.SyntaxText.{FilterView}
use Rattle.filter_reports.specs.Check.{AreLines}
use Rattle.filter_reports.specs.Checking.{EndsWith, IsDiagnosis}
use Rattle.filter_reports.specs.Marking.{written_lines}
use Rattle.filter_reports.specs.Notices.{IsNoticeIf, Named, words_or_line}
use Rattle.filter_reports.specs.Reports.{ReportView, followed_by, status_of_found}
use Rattle.filter_reports.specs.VerifiedFilters.{IsFilterOf}
use Rattle.filter_reports.specs.declared.wording.Wording.{Wording}
use Rattle.filter_reports.specs.declared.wording.Wording.TheVariants.{Nothing}
use Rattle.filter_source.specs.TextPlaces.{ArePlacesOf}
use Rattle.filter_source.specs.declared.diagnosis.Diagnosis.{Diagnosis}
use Rattle.filter_reports.specs.Refusing.{IsCheckFinding}
use Rattle.report_formats.specs.declared.format.Format.{Format}
use Rattle.report_formats.specs.declared.format.Format.TheVariants as formats
use Rattle.report_formats.specs.declared.options.CheckOptions.{CheckOptions}
use Rattle.filter_lint.specs.Linting.{AreHostBitsLines, WarnsOf}

-- how people are told why a source is refused
abbrev pub wording_of : CheckOptions → Wording
wording_of how = if how.tells_people then words_or_line how.is_explained else Nothing

-- what is written and told of a source that is checked, but for its warnings
abbrev pub IsPlain : Format → CheckOptions → Named → List ℕ → Option Diagnosis → ReportView → Type 0
IsPlain formats.Text how source lines why report =
    (report.out ≡ written_lines how source.name lines why) × IsNoticeIf (wording_of how) source why report.err
IsPlain formats.Json how source lines why report = IsCheckFinding how.is_quiet source why report.out × (report.err ≡ [])

-- and the exit status: 1 where it is refused
pub record IsPlainReport (how : CheckOptions) (source : Named) (lines : List ℕ) (why : Option Diagnosis) (report : ReportView) : Type 0 where
  pub said : IsPlain how.format how source lines why report
  pub ends : report.status ≡ status_of_found (is_some why)

-- These are the lines of all warnings of the filter that a text spells.
pub record AreAllWarnings (how : CheckOptions) (limit : ℕ) (source : Named) (lines : List ℕ) : Type 0 where
  pub filter : FilterView
  pub is_filter : IsFilterOf source.text how.size filter
  pub places : List ℕ
  pub are_places : ArePlacesOf source.text places
  pub status : ℕ
  pub warns : WarnsOf how.format how.size limit [] false is_filter.program places source lines status

-- Those that are told where none are asked for: where words are told, those of its prefixes with host bits.
abbrev pub AreUnaskedWarnings : Bool → Format → Named → List ℕ → Type 0
AreUnaskedWarnings true format source lines = AreHostBitsLines format source lines
AreUnaskedWarnings false format source lines = lines ≡ []

-- Those of a filter that are wanted: all, where they are asked for.
abbrev pub AreFilterWarnings : Option ℕ → CheckOptions → Named → List ℕ → Type 0
AreFilterWarnings (Some limit) how source lines = AreAllWarnings how limit source lines
AreFilterWarnings None how source lines = AreUnaskedWarnings how.is_explained how.format source lines

-- Those of a source. A code file has none.
abbrev pub AreWarnings : Bool → CheckOptions → Named → List ℕ → Type 0
AreWarnings true how source lines = lines ≡ []
AreWarnings false how source lines = AreFilterWarnings how.warning_limit how source lines

-- the report that says warnings behind another one
abbrev pub warning_report : Format → List ℕ → ReportView
warning_report formats.Text lines = record { out = []; err = lines; status = 0 }
warning_report formats.Json lines = record { out = lines; err = []; status = 0 }

-- This is the report on a source that is verified, which has these lines: those of its warnings that are wanted stand behind them.
pub record SaysVerified (how : CheckOptions) (source : Named) (lines : List ℕ) (report : ReportView) : Type 0 where
  pub plain : ReportView
  pub is_plain : IsPlainReport how source lines None plain
  pub warnings : List ℕ
  pub are_warnings : AreWarnings how.is_code how source warnings
  pub both : report ≡ followed_by plain (warning_report how.format warnings)

-- This is the report on a source: it is refused, and its last line tells why; or it is verified.
abbrev pub IsCheckReport : CheckOptions → Named → ReportView → Type 0
IsCheckReport how source report =
    ((why : Diagnosis) × (lines : List ℕ) × AreLines how.size how.is_code source.text (record { text = lines; refusals = 1 })
    × EndsWith (Some why) lines × IsDiagnosis how.size how.is_code source.text why × IsPlainReport how source lines (Some why) report)
    ⊎ ((lines : List ℕ) × AreLines how.size how.is_code source.text (record { text = lines; refusals = 0 }) × SaysVerified how source lines report)
