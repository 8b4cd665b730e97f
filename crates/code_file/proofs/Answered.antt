-- What was answered as reading answers it, in the words of the grammar.
use Rattle.std.proofs.Common.{◌≡◌, ◌⊎◌, ℕ, List, Result, Ok, Err, sym, ap, ◌∙◌, inl, inr}
use Rattle.std.specs.Prelude.{IfOk, IfErr, OnOk, MatchResult}
use Rattle.filter_code.specs.CodeView.{CodeView}
use Rattle.code_file.specs.declared.fault.FileFault.{FileFault}
use Rattle.code_file.specs.declared.fault.FileFault.TheVariants as fault
use Rattle.code_file.specs.Spelling.{spelling, IsCode, IsFile}
use Rattle.code_file.specs.Fault.{IsFault}
use Rattle.code_file.specs.Fields.{IsBytes}
use Rattle.code_file.specs.Reading.{file_of}
use Rattle.code_file.proofs.Grammar.{file_of_spelling, file_of_spelling_in, spelling_of_file, fault_of_file}

-- code or fault of the bytes, or memory was refused
abbrev pub Answers : List ℕ → Result CodeView FileFault → Type 0
Answers bytes r = MatchResult r (λ code. file_of bytes ≡ Ok code) (λ found. (found ≡ fault.Memory) ⊎ (file_of bytes ≡ Err found))

pub is_found : (bytes : List ℕ) (r : Result CodeView FileFault) → IsBytes bytes → Answers bytes r →
    IfOk r (IsFile bytes)
is_found bytes (Ok code) h given = spelling_of_file bytes code h given
is_found bytes (Err found) h given = tt

pub is_only : (bytes : List ℕ) (r : Result CodeView FileFault) → Answers bytes r → (code : CodeView) → IsFile bytes code →
    MatchResult r (λ read. read ≡ code) (λ found. found ≡ fault.Memory)
is_only bytes (Ok other) given code h =
    let read = ap file_of h.spelled ∙ file_of_spelling_in h.version code h.is_code in
    cc
is_only bytes (Err found) (inl none) code h = none
is_only bytes (Err found) (inr met) code h =
    let read = ap file_of h.spelled ∙ file_of_spelling_in h.version code h.is_code in
    absurd cc

pub is_refused : (bytes : List ℕ) (r : Result CodeView FileFault) → IsBytes bytes → Answers bytes r →
    IfErr r (λ found. (found ≡ fault.Memory) ⊎ IsFault bytes found)
is_refused bytes (Ok code) h given = tt
is_refused bytes (Err found) h (inl none) = inl none
is_refused bytes (Err found) h (inr met) = inr (fault_of_file bytes found h met)

-- ---- a file that is written anew

pub read_anew : {X : Type 0} (items : X → List ℕ) (bytes : List ℕ) (code : CodeView) (r : Result X FileFault) →
    file_of bytes ≡ Ok code → OnOk r (IsCode code) → IfOk r (λ x. items x ≡ spelling code) →
    IfOk r (λ x. file_of (items x) ≡ file_of bytes)
read_anew items bytes code (Ok x) h is written = ap file_of written ∙ file_of_spelling code is ∙ sym h
read_anew items bytes code (Err found) h is written = tt
