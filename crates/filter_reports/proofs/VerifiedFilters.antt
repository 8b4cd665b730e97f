-- A filter's text whose code is verified, or refused.
use Rattle.std.proofs.Common.{◌≡◌, ℕ, false, List, inr, sym, subst, ap}
use Rattle.filter_code.specs.CodeView.{CodeView}
use Rattle.filter_source.specs.Diagnoses.{TellsOfCode}
use Rattle.filter_source.specs.Failures.{OnDiagnosis, OnRefusal}
use Rattle.filter_source.specs.Sources.{IsUnsafe, Translates}
use Rattle.filter_source.specs.declared.failure.Failure.{Failure}
use Rattle.filter_source.specs.declared.failure.Failure.TheVariants.{Refused, Memory}
use Rattle.filter_verifier.specs.Safe.{IsSafe}
use Rattle.filter_verifier.specs.VerifiedView.{VerifiedView}
use Rattle.filter_reports.specs.Check.{GivesCode}
use Rattle.filter_reports.specs.Checking.{ArePlaces, IsDiagnosis}
use Rattle.filter_reports.specs.VerifiedFilters.{IsFilterOf, IsVerifiedOf}

-- verified code is the translation that was verified
pub verified_of : (size : ℕ) (text : List ℕ) (program : CodeView) (v : VerifiedView) → GivesCode false text program
    → v ≡ record { program = program; size = size } → IsSafe program size → IsVerifiedOf size text v
verified_of size text program v gives same safe = record {
  size_is = ap (λ (w : VerifiedView). w.size) same;
  filter = gives.1.0;
  translates = subst (λ (w : VerifiedView). Translates text gives.1.0 w.program) (sym same) gives.1.1;
  safe = subst (λ (w : VerifiedView). IsSafe w.program w.size) (sym same) safe;
}

-- code that is refused
pub refused_code : (size : ℕ) (text places : List ℕ) (program : CodeView) (failure : Failure) → GivesCode false text program
    → ArePlaces false text places → OnRefusal (IsUnsafe program size) failure → OnDiagnosis (TellsOfCode program places size) failure
    → OnDiagnosis (IsDiagnosis size false text) failure
refused_code size text places program (Refused diagnosis) gives are unsafe is = inr (program, gives, unsafe, (places, are, is))
refused_code size text places program Memory gives are unsafe is = tt

-- verified code is that of its filter
abbrev pub is_filter : (size : ℕ) (text : List ℕ) (v : VerifiedView) → (is : IsVerifiedOf size text v) → IsFilterOf text size is.filter
is_filter size text v is = record { program = v.program; translates = is.translates; safe = subst (IsSafe v.program) is.size_is is.safe }
