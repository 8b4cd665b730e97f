-- What comes of the words of a conversion, where that of the text which was written for them is known.
use Rattle.std.proofs.Common.{◌≡◌, ◌<◌, ℕ, zero, suc, false, List, [], ◌∷◌, Option, Some, None, IfErr}
use Rattle.std.proofs.Common.{IfOk, Result, Ok, Err, arith, get_or, length, slice_get, subst, sym}
use Rattle.std.proofs.lemmas.Option.{slice_get-get_or}
use Rattle.bird_import.specs.Indices.{IsNameAt}
use Rattle.bird_import.specs.Texts.{HasOutcome, IsTaken}
use Rattle.bird_import.specs.declared.reason.Why.TheVariants as why
use Rattle.bird_import.specs.declared.text.TextOutcome.{TextOutcome}
use Rattle.bird_import.specs.declared.text.TextOutcome.TheVariants as text_outcome
use Rattle.bird_import.specs.declared.text.Origin.{Origin}
use Rattle.bird_import.specs.declared.word.Word.{Word}
use Rattle.filter_reports.specs.Checking.{IsDiagnosis}
use Rattle.filter_source.specs.Failures.{OnDiagnosis}
use Rattle.filter_source.specs.declared.diagnosis.Diagnosis.{Diagnosis}
use Rattle.filter_source.specs.declared.failure.Failure.{Failure}
use Rattle.filter_source.specs.declared.failure.Failure.TheVariants as failure
use Rattle.refusal_words.specs.Explanations.{AreRefusalWords}
use Rattle.ncimport.specs.Importing.{IsLeftFor, IsResultOfText, IsResultOfWords, IsRefusedText, IsLeftOutFor}
use Rattle.ncimport.specs.Importing.{IsLeftOutUnset, KeepsText, KeepsWords, text_in}
use Rattle.ncimport.specs.Noting.{place_from}
use Rattle.ncimport.specs.declared.importing.FilterResult.{FilterResult}

-- the text is taken
pub of_taken : (size at : ℕ) (words : List Word) (text : List ℕ) (origins : List Origin) (filter_result : FilterResult) (kept : Option (List ℕ))
    → IsTaken words text → KeepsText size at text origins filter_result kept → KeepsWords size at words text origins filter_result kept
of_taken size at words text origins filter_result None taken refused = record { text_outcome = text_outcome.Taken; has_outcome = taken; left = refused }
of_taken size at words text origins filter_result (Some kept) taken (same, verified, place) =
    record { same = same; taken = taken; verified = verified; place = place }

-- what is told of a failure that is a refusal
pub told_of : {A : Type 0} (size : ℕ) (text : List ℕ) (r : Result A Failure) (why : Failure) (told : Diagnosis)
    → IfErr r (OnDiagnosis (IsDiagnosis size false text)) → r ≡ Err why → why ≡ failure.Refused told → IsDiagnosis size false text told
told_of size text r why told is failed refused =
    subst (OnDiagnosis (IsDiagnosis size false text)) refused (subst (λ x. IfErr x (OnDiagnosis (IsDiagnosis size false text))) failed is)

-- what a refusal is told in, where that is what is told of a source
pub of_refusal : {E : Type 0} (at : ℕ) (text : List ℕ) (origins : List Origin) (told : Diagnosis) (r : Result FilterResult E)
    → IfOk r (λ filter_result. AreRefusalWords told filter_result.words.items) → IfOk r (λ filter_result. filter_result.at ≡ place_from origins at told.byte)
    → ((size : ℕ) → IsDiagnosis size false text told) → IfOk r (λ filter_result. (size : ℕ) → IsRefusedText size at text origins filter_result)
of_refusal at text origins told (Ok filter_result) words place is = λ size. record { told = told; is = is size; told_so = words; place = place }
of_refusal at text origins told (Err e) words place is = tt

-- a refusal was told in its words
pub of_told : {E : Type 0} (size at : ℕ) (text : List ℕ) (origins : List Origin) (told : Diagnosis) (r : Result FilterResult E)
    → IfOk r (λ filter_result. text_in filter_result ≡ None) → IfOk r (λ filter_result. AreRefusalWords told filter_result.words.items)
    → IfOk r (λ filter_result. filter_result.at ≡ place_from origins at told.byte) → IsDiagnosis size false text told
    → IfOk r (IsResultOfText size at text origins)
of_told size at text origins told (Ok filter_result) none words place is =
    subst (λ (kept : Option (List ℕ)). KeepsText size at text origins filter_result kept) (sym none)
    (record { told = told; is = is; told_so = words; place = place })
of_told size at text origins told (Err e) none words place is = tt

-- what came of words follows from what came of a text
pub of_text : {E : Type 0} (size at : ℕ) (words : List Word) (text : List ℕ) (origins : List Origin) (r : Result FilterResult E) → IsTaken words text
    → IfOk r (IsResultOfText size at text origins) → IfOk r (IsResultOfWords size at words text origins)
of_text size at words text origins (Ok filter_result) taken is = of_taken size at words text origins filter_result (text_in filter_result) taken is
of_text size at words text origins (Err e) taken is = tt

-- a filter of which no text is kept is left out for this
pub of_left : {E : Type 0} (size at : ℕ) (words : List Word) (text : List ℕ) (origins : List Origin) (others : TextOutcome) (r : Result FilterResult E)
    → HasOutcome words text others → IfOk r (λ filter_result. IsLeftFor size at words text origins filter_result others) → IfOk r (λ filter_result. text_in filter_result ≡ None)
    → IfOk r (IsResultOfWords size at words text origins)
of_left size at words text origins others (Ok filter_result) has_outcome left none =
    subst (λ (kept : Option (List ℕ)). KeepsWords size at words text origins filter_result kept) (sym none)
    (record { text_outcome = others; has_outcome = has_outcome; left = left })
of_left size at words text origins others (Err e) has_outcome left none = tt

-- a name is one of the words
pub is_among : (words : List Word) (k : ℕ) → IsNameAt words k → k < length words
is_among [] k is = cc
is_among (word ∷ words) zero is = omega arith
is_among (word ∷ words) (suc k) is =
    let further = is_among words k is in
    omega (arith, further)

-- of a variable that may not be assigned it is told at its word
pub of_unset : {E : Type 0} (words : List Word) (k : ℕ) (none : Word) (r : Result FilterResult E) → k < length words
    → IfOk r (IsLeftOutFor (get_or words k none).at (why.Unset (get_or words k none).bytes)) → IfOk r (λ filter_result. IsLeftOutUnset (slice_get words k) filter_result)
of_unset words k none r below told =
    subst (λ (found : Option Word). IfOk r (λ filter_result. IsLeftOutUnset found filter_result)) (sym (slice_get-get_or words k none below)) told

-- the parser refused it, so it is refused for every size
pub of_size : {E : Type 0} (size at : ℕ) (text : List ℕ) (origins : List Origin) (r : Result FilterResult E)
    → IfOk r (λ filter_result. (size : ℕ) → IsRefusedText size at text origins filter_result) → IfOk r (λ filter_result. IsRefusedText size at text origins filter_result)
of_size size at text origins (Ok filter_result) refused = refused size
of_size size at text origins (Err e) refused = tt

-- it is so of the text, and of the places of its words, that are the same
pub of_same : {E : Type 0} (size at : ℕ) (words : List Word) {text other : List ℕ} {origins others : List Origin} (r : Result FilterResult E)
    → text ≡ other → origins ≡ others → IfOk r (IsResultOfWords size at words text origins) → IfOk r (IsResultOfWords size at words other others)
of_same size at words {text} {other} {origins} {others} r same alike is =
    subst (λ (o : List Origin). IfOk r (IsResultOfWords size at words other o)) alike
    (subst (λ (t : List ℕ). IfOk r (IsResultOfWords size at words t origins)) same is)
