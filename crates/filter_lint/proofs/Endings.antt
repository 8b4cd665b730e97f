-- What is said of a filter that is verified.
use Rattle.std.proofs.Common.{◌≡◌, ℕ, ◌+◌, ◌&&◌, Bool, true, false, List, length, Result, Ok, Err, IfOk, Global}
use Rattle.std.specs.Prelude.{All, String}
use Rattle.prefix_patterns.specs.Matching.{PrefixPattern}
use Rattle.filter_code.specs.CodeView.{CodeView}
use Rattle.filter_diff.specs.Parts.{IsEnough}
use Rattle.filter_reports.specs.Checking.{IsVerifiedSource}
use Rattle.filter_reports.specs.Notices.{Named}
use Rattle.filter_reports.specs.VerifiedFilters.{IsFilterOf}
use Rattle.filter_reports.specs.declared.check.SurveyedSource.{SurveyedSource}
use Rattle.filter_lint.specs.Allowing.{shown_host_bits, shown_of}
use Rattle.filter_lint.specs.HostBits.{AreHostBits}
use Rattle.filter_lint.specs.Linting.{WarnsOf, status_of_warnings}
use Rattle.filter_lint.specs.Rules.{AreFound}
use Rattle.filter_lint.specs.Truths.{IsTrueOf}
use Rattle.filter_lint.specs.WarningLines.{warnings_text}
use Rattle.filter_lint.specs.declared.host_bits.HostBits.{HostBits}
use Rattle.filter_lint.specs.declared.linting.WarningReport.{WarningReport}
use Rattle.filter_lint.specs.declared.rules.Warnings.{Warnings}
use Rattle.filter_lint.specs.declared.warning.Warning.{Warning}
use Rattle.report_formats.specs.declared.format.Format.{Format}

-- the lines of the warnings that are told are those of the ones that are found
pub reported : {E : Type 0} (format : Format) (size limit : ℕ) (allowed : List (String Global)) (asks_order : Bool) (program : CodeView) (places : List ℕ)
    (source : Named) (all : Warnings) (host_bits bits : List HostBits) (shown : List Warning) (sets : List (List PrefixPattern))
    (r : Result WarningReport E) → sets ≡ program.sets
    → shown ≡ shown_of allowed source.text all.found.items → bits ≡ shown_host_bits allowed source.text host_bits
    → AreFound program source.text places size asks_order all → All (IsTrueOf program size places) all.found.items
    → (IsEnough size limit → all.is_complete ≡ true) → (IsEnough size limit → all.is_ordered ≡ true) → AreHostBits source.text host_bits
    → IfOk r (λ report. report.lines.items ≡ warnings_text format source.name source.text sets shown bits all.is_complete all.is_ordered)
    → IfOk r (λ report. report.status ≡ status_of_warnings (length shown + length bits) (all.is_complete && all.is_ordered))
    → IfOk r (λ report. WarnsOf format size limit allowed asks_order program places source report.lines.items report.status)
reported format size limit allowed asks_order program places source all host_bits bits shown sets (Err why) same alike fewer found true_of decided ordered
    are lines counted = tt
reported format size limit allowed asks_order program places source all host_bits bits shown sets (Ok report) same alike fewer found true_of decided ordered
    are lines counted = record {
      all = all;
      are_found = found;
      are_true = true_of;
      host_bits = host_bits;
      are_host_bits = are;
      lines_are = rw (← same, ← alike, ← fewer) lines;
      decided = decided;
      ordered = ordered;
      ends = rw (← alike, ← fewer) counted;
    }

-- verified code is that of its filter
abbrev pub filter_of : (size : ℕ) (text : List ℕ) (found : SurveyedSource) → (is : IsVerifiedSource size false text found)
    → IsFilterOf text size is.survey.gives.1.0
filter_of size text found is = record { program = found.code; translates = is.survey.gives.1.1; safe = is.safe }
