-- What is told of a failure.
use Rattle.std.specs.Prelude.{◌≡◌, ℕ, List, [], Ok, Err}
use Rattle.std.proofs.Common.{inl, inr, refl, subst, sym}
use Rattle.filter_code.specs.CodeView.{CodeView}
use Rattle.filter_source.specs.Diagnoses.{TellsOfCode, TellsOfFile}
use Rattle.filter_source.specs.Failures.{OnDiagnosis, OnRefusal}
use Rattle.filter_source.specs.Sources.{IsUnsafe, code_in_file}
use Rattle.filter_source.specs.declared.diagnosis.Diagnosis.{Diagnosis}
use Rattle.filter_source.specs.declared.failure.Failure.{Failure}
use Rattle.filter_source.specs.declared.failure.Failure.TheVariants as failure
use Rattle.filter_verifier.specs.Safe.{IsSafe}
use Rattle.filter_verifier.specs.VerifiedView.{VerifiedView}
use Rattle.refusal_words.specs.Explanations.{AreRefusalWords}
use Rattle.filter_reports.specs.VerifiedFilters.{IsVerifiedOf}
use Rattle.filter_c.specs.Openings.{IsDiagnosisOfFile, IsShown, IsVerifiedFile, Shows, Tells, put, refused_as}
use Rattle.filter_c.specs.declared.refused.Refused.{Refused}

-- what holds of the diagnosis of a failure is told
pub tells : (P : Diagnosis → Type 0) (e : Failure) (text : List ℕ) (refused : Refused) (old new : List ℕ) → OnDiagnosis P e → IsShown e text refused old new → Tells P text refused old new
tells P (failure.Refused diagnosis) text refused old new on is = record { diagnosis = diagnosis; holds = on; shows = is }
tells P failure.Memory text refused old new on is = absurd is

-- words that are put in a buffer, and what is told beside them, show a diagnosis
pub shows : (diagnosis : Diagnosis) (text : List ℕ) (refused : Refused) (old new words : List ℕ) → AreRefusalWords diagnosis words
    → refused ≡ refused_as text diagnosis words → new ≡ put words old → Shows diagnosis text refused old new
shows diagnosis text refused old new words are diagnosis' put' = record { words = words; are_its_words = are; tells = diagnosis'; shown = put' }

-- a refusal of the bytes, or of their code
pub by_bytes : (bytes : List ℕ) (size : ℕ) (e : Failure) → OnRefusal (λ why. code_in_file bytes ≡ Err why) e → OnDiagnosis TellsOfFile e → OnDiagnosis (IsDiagnosisOfFile size bytes) e
by_bytes bytes size (failure.Refused diagnosis) no_code tells = inl (no_code, tells)
by_bytes bytes size failure.Memory no_code tells = tt

pub by_code : (bytes : List ℕ) (size : ℕ) (program : CodeView) (e : Failure) → code_in_file bytes ≡ Ok program → OnRefusal (IsUnsafe program size) e → OnDiagnosis (TellsOfCode program [] size) e → OnDiagnosis (IsDiagnosisOfFile size bytes) e
by_code bytes size program (failure.Refused diagnosis) code unsafe' tells = inr (program, code, unsafe', tells)
by_code bytes size program failure.Memory code unsafe' tells = tt

-- the code of the bytes, verified
pub verified_of : (bytes : List ℕ) (size : ℕ) (program : CodeView) (v : VerifiedView) → code_in_file bytes ≡ Ok program → v ≡ record { program = program; size = size } → IsSafe program size → IsVerifiedFile size bytes v
verified_of bytes size program v code is safe = subst (IsVerifiedFile size bytes) (sym is) (record { size_is = refl; code = code; safe = safe })

-- the same filter, behind an owner
pub same_of_text : (size : ℕ) (text : List ℕ) (v w : VerifiedView) → w ≡ v → IsVerifiedOf size text v → IsVerifiedOf size text w
same_of_text size text v w same of = subst (IsVerifiedOf size text) (sym same) of

pub same_of_file : (size : ℕ) (bytes : List ℕ) (v w : VerifiedView) → w ≡ v → IsVerifiedFile size bytes v → IsVerifiedFile size bytes w
same_of_file size bytes v w same of = subst (IsVerifiedFile size bytes) (sym same) of
