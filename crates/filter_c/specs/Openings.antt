-- What C reads of a source that is opened, or refused. (This project's own choice.)
use Rattle.std.specs.Prelude.{◌≡◌, ◌⊎◌, ℕ, ◌+◌, ◌-◌, List, [], ◌∷◌, ◌++◌, Option, Some, None, Ok, Err, drop, if◌then◌else◌, length, min, nat_lt, take}
use Rattle.filter_code.specs.CodeView.{CodeView}
use Rattle.refusal_words.specs.Explanations.{AreRefusalWords}
use Rattle.refusal_words.specs.Places.{column_at, line_at}
use Rattle.filter_source.specs.Diagnoses.{TellsOfCode, TellsOfFile}
use Rattle.filter_source.specs.Refusals.{refusal_code, refusal_place}
use Rattle.filter_source.specs.Sources.{IsUnsafe, code_in_file}
use Rattle.filter_source.specs.declared.diagnosis.Diagnosis.{Diagnosis}
use Rattle.filter_source.specs.declared.failure.Failure.{Failure}
use Rattle.filter_source.specs.declared.failure.Failure.TheVariants as failure
use Rattle.filter_verifier.specs.Safe.{IsSafe}
use Rattle.filter_verifier.specs.VerifiedView.{VerifiedView}
use Rattle.filter_c.specs.declared.refused.Refused.{Refused}

-- These bytes are the file of this code, and it never goes wrong in domains of this size.
pub record IsVerifiedFile (size : ℕ) (bytes : List ℕ) (verified : VerifiedView) : Type 0 where
  pub size_is : verified.size ≡ size
  pub code : code_in_file bytes ≡ Ok verified.program
  pub safe : IsSafe verified.program verified.size

-- A code file gives no verified code for a size, and this is told of it: it gives no code, or code that may go wrong.
abbrev pub IsDiagnosisOfFile : ℕ → List ℕ → Diagnosis → Type 0
IsDiagnosisOfFile size bytes diagnosis =
    ((code_in_file bytes ≡ Err diagnosis.refusal) × TellsOfFile diagnosis)
    ⊎ ((program : CodeView) × (code_in_file bytes ≡ Ok program) × IsUnsafe program size diagnosis.refusal × TellsOfCode program [] size diagnosis)

-- a code of a letter and one or two digits as four bytes, of which the last are 0
abbrev pub code_bytes : List ℕ → List ℕ
code_bytes (a ∷ b ∷ []) = a ∷ b ∷ 0 ∷ 0 ∷ []
code_bytes (a ∷ b ∷ c ∷ []) = a ∷ b ∷ c ∷ 0 ∷ []
code_bytes xs = 0 ∷ 0 ∷ 0 ∷ 0 ∷ []

-- the line and the column of a byte of a text, or 0 where there is none
abbrev pub line_of : List ℕ → Option ℕ → ℕ
line_of text None = 0
line_of text (Some at) = line_at text at

abbrev pub column_of : List ℕ → Option ℕ → ℕ
column_of text None = 0
column_of text (Some at) = column_at text at

-- how many bytes of words a buffer has room for, with a zero behind them
abbrev pub fitting : List ℕ → List ℕ → ℕ
fitting words buffer = min (length words) (length buffer - 1)

-- a buffer that these words are put in: as many of them as fit, a zero, and what was behind. In one of no bytes nothing is put.
abbrev pub put : List ℕ → List ℕ → List ℕ
put words buffer = if nat_lt 0 (length buffer)
    then take (fitting words buffer) words ++ 0 ∷ drop (fitting words buffer + 1) buffer
    else buffer

abbrev pub refused_as : List ℕ → Diagnosis → List ℕ → Refused
refused_as text diagnosis words = record {
  place = refusal_place diagnosis.refusal;
  line = line_of text diagnosis.byte;
  column = column_of text diagnosis.byte;
  words_size = length words + 1;
  code = code_bytes (refusal_code diagnosis.refusal);
}

-- C is told so of a diagnosis: its words are in the buffer as far as they fit, and their number is told.
pub record Shows (diagnosis : Diagnosis) (text : List ℕ) (refused : Refused) (old new : List ℕ) : Type 0 where
  pub words : List ℕ
  pub are_its_words : AreRefusalWords diagnosis words
  pub tells : refused ≡ refused_as text diagnosis words
  pub shown : new ≡ put words old

-- it is told so of a failure; of memory nothing is told
abbrev pub IsShown : Failure → List ℕ → Refused → List ℕ → List ℕ → Type 0
IsShown (failure.Refused diagnosis) text refused old new = Shows diagnosis text refused old new
IsShown failure.Memory text refused old new = ⊥

-- a diagnosis for which this holds is told
pub record Tells (P : Diagnosis → Type 0) (text : List ℕ) (refused : Refused) (old new : List ℕ) : Type 0 where
  pub diagnosis : Diagnosis
  pub holds : P diagnosis
  pub shows : Shows diagnosis text refused old new
