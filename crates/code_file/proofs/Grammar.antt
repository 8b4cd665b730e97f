-- Reading is the grammar: a code is what is spelled so, and a fault is the one that the bytes have.
use Rattle.std.proofs.Common.{refl, ◌≡◌, ℕ, ◌+◌, List, ◌∷◌, ◌++◌, length, slice_index, Result, Ok, Err, sym, ap, subst, ◌∙◌, arith, inl, inr, ◌↔◌}
use Rattle.filter_code.specs.CodeView.{CodeView}
use Rattle.code_file.specs.declared.fault.FileFault.{FileFault}
use Rattle.code_file.specs.declared.fault.FileFault.TheVariants as fault
use Rattle.code_file.specs.Fields.{fault_of}
use Rattle.code_file.specs.declared.version.Version.{Version}
use Rattle.code_file.specs.declared.version.Version.TheVariants as version
use Rattle.code_file.specs.Spelling.{Field, bytes_of, fields, spelling, spelling_in, IsCode, IsCodeIn, IsFile}
use Rattle.code_file.specs.Fault.{IsReadUpTo, IsFault}
use Rattle.code_file.specs.Fields.{IsBytes}
use Rattle.code_file.specs.Reading.{Rest, a_file, read, whole, file_of}
use Rattle.code_file.proofs.Formats.{Follows, rest_at, from_start, read_again, whole_again, whole_short, whole_bad, whole_long}
use Rattle.code_file.proofs.Formats.{AreNotAll, whole_found, Stopped, whole_refused}
use Rattle.code_file.proofs.Files.{put_file, take_file}

-- the file of a code is read
pub file_of_spelling_in : (v : Version) (code : CodeView) → IsCodeIn v code → file_of (spelling_in v code) ≡ Ok code
unfolding file_of
file_of_spelling_in v code h = whole_again a_file (fields v code) code (put_file v code h)

pub file_of_spelling : (code : CodeView) → IsCode code → file_of (spelling code) ≡ Ok code
file_of_spelling code h = file_of_spelling_in version.Two code h

-- what was read is the file of the code
pub spelling_of_file : (bytes : List ℕ) (code : CodeView) → IsBytes bytes → file_of bytes ≡ Ok code → IsFile bytes code
unfolding file_of
spelling_of_file bytes code h e =
    let all = whole_found a_file bytes code h e in
    let is = take_file all.fields code all.fields_are_bytes all.follows in
    record { version = is.version; is_code = is.is_code; spelled = all.parts ∙ ap bytes_of is.parts }

-- where a code begins with some fields, these and the others follow the format
follows_up_to : (bytes : List ℕ) (front : List Field) (next : Field) (rest : List ℕ)
    (up_to : IsReadUpTo bytes front next rest) → Follows a_file (front ++ next ∷ up_to.others) up_to.code
follows_up_to bytes front next rest up_to = subst (λ (fs : List Field). Follows a_file fs up_to.code) up_to.in_order
    (put_file up_to.version up_to.code up_to.is_code)

-- the fault of bytes is met
pub file_of_fault : (bytes : List ℕ) (found : FileFault) → IsFault bytes found → file_of bytes ≡ Err found
unfolding file_of
file_of_fault bytes found (inl short) =
    let up_to = short.up_to in
    let met = whole_short a_file short.front short.next up_to.others up_to.code short.rest
    (follows_up_to bytes short.front short.next short.rest up_to) short.short in
    ap (λ (b : List ℕ). whole (read a_file (from_start b))) up_to.parts ∙ met
    ∙ ap (λ (b : List ℕ). Err (fault.EndsEarly (length b))) (sym up_to.parts) ∙ ap (λ (f : FileFault). Err f)
    (sym short.fault)
file_of_fault bytes found (inr (inl bad)) =
    let up_to = bad.up_to in
    let met = whole_bad a_file bad.front bad.next up_to.others up_to.code bad.rest
    (follows_up_to bytes bad.front bad.next bad.rest up_to) bad.whole bad.bad in
    ap (λ (b : List ℕ). whole (read a_file (from_start b))) up_to.parts ∙ met ∙ ap (λ (f : FileFault). Err f) (sym bad.fault)
file_of_fault bytes found (inr (inr long)) =
    let met = whole_long a_file (fields long.version long.code) long.code long.next long.others
    (put_file long.version long.code long.is_code) in
    ap (λ (b : List ℕ). whole (read a_file (from_start b))) long.parts ∙ met ∙ ap (λ (f : FileFault). Err f) (sym long.fault)

-- the fault that is met is that of the bytes
stopped_is_fault : (bytes : List ℕ) (found : FileFault) → Stopped a_file (from_start bytes) found → IsFault bytes found
stopped_is_fault bytes found stopped =
    let is = take_file (stopped.front ++ stopped.next ∷ stopped.others) stopped.made stopped.fields_are_bytes stopped.follows in
    let up_to : IsReadUpTo bytes stopped.front stopped.next stopped.tail =
    record {
      version = is.version;
      code = stopped.made;
      is_code = is.is_code;
      others = stopped.others;
      in_order = sym is.parts;
      parts = stopped.parts;
    } in
    let end : 0 + length bytes ≡ length bytes = omega arith in
    let place : 0 + length (bytes_of stopped.front) ≡ length (bytes_of stopped.front) = omega arith in
    elim stopped.why [
      | inl short ↦ inl (record {
        front = stopped.front;
        next = stopped.next;
        rest = stopped.tail;
        up_to = up_to;
        short =
            short.0;
        fault = short.1 ∙ ap (λ (n : ℕ). fault.EndsEarly n) end;
      })
      | inr bad ↦ inr (inl (record {
        front = stopped.front;
        next = stopped.next;
        rest = stopped.tail;
        up_to = up_to;
        whole =
            bad.0;
        bad = bad.1;
        fault = bad.2 ∙ ap (fault_of stopped.next.kind) place;
      }))
    ]

long_is_fault : (bytes : List ℕ) (found : FileFault) → AreNotAll a_file bytes found → IsFault bytes found
long_is_fault bytes found long =
    let is = take_file long.fields long.made long.fields_are_bytes long.follows in
    inr (inr (record {
      version = is.version;
      code = long.made;
      is_code = is.is_code;
      next = long.next;
      others = long.others;
      parts = long.parts ∙ ap (λ (fs : List Field). bytes_of fs ++ long.next ∷ long.others) is.parts;
      fault = long.is ∙ ap (λ (fs : List Field). fault.BytesAfterEnd (length (bytes_of fs))) is.parts;
    }))

pub fault_of_file : (bytes : List ℕ) (found : FileFault) → IsBytes bytes → file_of bytes ≡ Err found → IsFault bytes found
unfolding file_of
fault_of_file bytes found h e =
    elim (whole_refused a_file bytes found h e) [
      | inl stopped ↦ stopped_is_fault bytes found stopped
      | inr long ↦ long_is_fault bytes found long
    ]

-- ---- laws of the grammar

pub one_fault : (bytes : List ℕ) (a b : FileFault) → IsFault bytes a → IsFault bytes b → a ≡ b
one_fault bytes a b p q =
    let met = file_of_fault bytes a p in
    let also = file_of_fault bytes b q in
    cc

pub no_fault : (v : Version) (code : CodeView) (found : FileFault) → IsCodeIn v code → IsFault (spelling_in v code) found → ⊥
no_fault v code found h p =
    let read = file_of_spelling_in v code h in
    let met = file_of_fault (spelling_in v code) found p in
    cc

abbrev pair : {A B : Type 0} → A → B → A × B
pair x t = (x, t)

-- what is left and what was made are those of one file
same_found : {A B : Type 0} (r : Result (A × B) FileFault) (x y : A) (t u : B) → r ≡ Ok (x, t) → r ≡ Ok (y, u) → (x ≡ y) × (t ≡ u)
same_found {A} {B} r x y t u p q =
    let both : pair x t ≡ pair y u = cc in
    (ap (λ (p : A × B). p.0) both, ap (λ (p : A × B). p.1) both)

-- files that begin alike have the same version
one_version : (v w : Version) (a b : CodeView) (x y : List ℕ) → spelling_in v a ++ x ≡ spelling_in w b ++ y → v ≡ w
one_version version.One version.One a b x y e = refl
one_version version.One version.Two a b x y e = absurd (let last = ap (λ (bytes : List ℕ). slice_index bytes 3) e in omega (arith, last))
one_version version.Two version.One a b x y e = absurd (let last = ap (λ (bytes : List ℕ). slice_index bytes 3) e in omega (arith, last))
one_version version.Two version.Two a b x y e = refl

-- no file begins another, and each is that of one code
pub one_file : (v w : Version) (a b : CodeView) (x y : List ℕ) → IsCodeIn v a → IsCodeIn w b →
    spelling_in v a ++ x ≡ spelling_in w b ++ y → (v ≡ w) × (a ≡ b) × (x ≡ y)
one_file v w a b x y p q e =
    let left = read_again a_file (fields v a) a 0 x (put_file v a p) in
    let right = ap (λ (bytes : List ℕ). read a_file (from_start bytes)) e ∙ read_again a_file (fields w b) b 0 y (put_file w b q) in
    let same = same_found (read a_file (from_start (spelling_in v a ++ x))) a b (rest_at (0 + length (spelling_in v a)) x)
    (rest_at (0 + length (spelling_in w b)) y) left right in
    (one_version v w a b x y e, same.0, ap (λ (r : Rest). r.bytes) same.1)

pub exact_code : (bytes : List ℕ) (code : CodeView) → IsBytes bytes → (file_of bytes ≡ Ok code) ↔ IsFile bytes code
exact_code bytes code h =
    (spelling_of_file bytes code h, λ is. ap file_of is.spelled ∙ file_of_spelling_in is.version code is.is_code)

pub exact_fault : (bytes : List ℕ) (found : FileFault) → IsBytes bytes → (file_of bytes ≡ Err found) ↔ IsFault bytes found
exact_fault bytes found h = (fault_of_file bytes found h, file_of_fault bytes found)

pub more_follows : (v : Version) (code : CodeView) (next : ℕ) (others : List ℕ) → IsCodeIn v code →
    file_of (spelling_in v code ++ next ∷ others) ≡ Err (fault.BytesAfterEnd (length (spelling_in v code)))
more_follows v code next others h =
    file_of_fault (spelling_in v code ++ next ∷ others) (fault.BytesAfterEnd (length (spelling_in v code)))
    (inr (inr (record { version = v; code = code; is_code = h; next = next; others = others; parts = refl; fault = refl })))
