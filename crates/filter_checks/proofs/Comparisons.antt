-- How two texts are judged.
use Rattle.std.proofs.Common.{◌≡◌, inl, inr, ℕ, false, List, Option, Some, None, Result, Ok, Err, IfOk, MatchResult, sym, subst}
use Rattle.std.specs.Result.{result_err}
use Rattle.filter_reports.specs.Checking.{IsDiagnosis}
use Rattle.filter_source.specs.declared.diagnosis.Diagnosis.{Diagnosis}
use Rattle.filter_reports.proofs.VerifiedFilters.{is_filter}
use Rattle.filter_reports.specs.VerifiedFilters.{IsVerifiedOf}
use Rattle.filter_reports.specs.Notices.{Named}
use Rattle.filter_reports.specs.Reports.{ReportView}
use Rattle.filter_verifier.specs.VerifiedView.{VerifiedView}
use Rattle.filter_checks.specs.Comparing.{AreRefused, IsDiffReport, IsJudged, IsPartsReport}
use Rattle.report_formats.specs.declared.options.DiffOptions.{DiffOptions}

-- what is told of a text, where it is judged so
judged : (size : ℕ) (text : List ℕ) (r : Result VerifiedView Diagnosis) → MatchResult r (IsVerifiedOf size text) (IsDiagnosis size false text)
    → IsJudged size text (result_err r)
judged size text (Ok v) h = (h.filter, is_filter size text v h)
judged size text (Err diagnosis) h = h

pub second_refused : (size : ℕ) (old new : Named) (v : VerifiedView) (diagnosis : Diagnosis) → IsVerifiedOf size old.text v
    → IsDiagnosis size false new.text diagnosis → AreRefused size old new None (Some diagnosis)
second_refused size old new v diagnosis is_v h = record {
  old_judged = (is_v.filter, is_filter size old.text v is_v);
  new_judged = h;
  refused = λ first second. cc;
}

pub first_refused : (size : ℕ) (old new : Named) (diagnosis : Diagnosis) (r : Result VerifiedView Diagnosis) (after : Option Diagnosis)
    → after ≡ result_err r → IsDiagnosis size false old.text diagnosis
    → MatchResult r (IsVerifiedOf size new.text) (IsDiagnosis size false new.text) → AreRefused size old new (Some diagnosis) after
first_refused size old new diagnosis r after is h g = record {
  old_judged = h;
  new_judged = subst (IsJudged size new.text) (sym is) (judged size new.text r g);
  refused = λ first. absurd (let no : ⊥ = cc in no);
}

-- the report on two codes is that on two texts which spell them
pub both_compared : (how : DiffOptions) (old new : Named) (v w : VerifiedView) (report : ReportView) → IsVerifiedOf how.size old.text v
    → IsVerifiedOf how.size new.text w → IsPartsReport how new.name v.program w.program v.size report → IsDiffReport how old new report
both_compared how old new v w report is_v is_w said =
    inr (
      is_v.filter,
      is_filter how.size old.text v is_v,
      is_w.filter,
      is_filter how.size new.text w is_w,
      subst (λ (n : ℕ). IsPartsReport how new.name v.program w.program n report) is_v.size_is said,
    )
