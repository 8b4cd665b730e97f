-- Formats in general: fields that follow a format are read as what they make, and a fault is met where they stop.
use Rattle.std.proofs.Common.{◌≡◌, ℕ, zero, suc, ◌+◌, ◌<◌, ◌≤◌, Bool, true, false, cond, ltb, eqb, List, [], ◌∷◌, ◌++◌, length}
use Rattle.std.proofs.Common.{take, drop, Result, Ok, Err, refl, sym, ap, subst, ◌∙◌, append_assoc, arith, inl, inr, ◌⊎◌, lit<}
use Rattle.std.proofs.Common.{slice_index, eq-eqb}
use Rattle.std.proofs.lemmas.Bool.{cases_lt, ltb-false, le-ltb, lt-ltb, ne_eqb}
use Rattle.std.proofs.lemmas.List.{take_at, drop_at, take-append-drop, length-append, length-take, length-drop, append-nil}
use Rattle.code_file.specs.declared.fault.FileFault.{FileFault}
use Rattle.code_file.specs.declared.fault.FileFault.TheVariants as fault
use Rattle.code_file.proofs.Bytes.{IsBytes-drop, IsBytes-take, one_byte, zeros_are_bytes}
use Rattle.code_file.specs.Fields.{FieldKind, width, is_good, fault_of, mark_bytes, form_of}
use Rattle.code_file.specs.Fields.FieldKind.{Mark, VersionMark, Locals, Sets, Patterns, Pattern, IntSets, Ranges, Range, Instructions, Opcode}
use Rattle.code_file.specs.Fields.FieldKind.{WordOperand, TruthOperand, PrefixOperand, NameOperand, BitsOperand, SkipOperand}
use Rattle.prefix_patterns.specs.Bits.{bits, number}
use Rattle.code_file.specs.Spelling.{Field, bytes_of}
use Rattle.code_file.specs.Fields.{IsBytes}
use Rattle.code_file.specs.Reading.{Format, ◌>>=◌, Rest, past, read, whole}
use Rattle.code_file.specs.Reading.Format.{Done, Next}

-- good fields, in the order of the format, that make x
abbrev pub Follows : {A : Type 0} → Format A → List Field → A → Type 0
Follows (Done made) fs x = (fs ≡ []) × (made ≡ x)
Follows (Next kind others) [] x = ⊥
Follows (Next kind others) (f ∷ fs) x = (f.kind ≡ kind) × (length f.bytes ≡ width kind) × (is_good kind f.bytes ≡ true)
    × Follows (others f.bytes) fs x

-- what is left after the bytes of some fields
abbrev pub rest_at : ℕ → List ℕ → Rest
rest_at at bytes = record { at = at; bytes = bytes }

-- a whole good field is read
pub read_good : {A : Type 0} (kind : FieldKind) (others : List ℕ → Format A) (rest : Rest) → width kind ≤ length rest.bytes →
    is_good kind (take (width kind) rest.bytes) ≡ true
    → read (Next kind others) rest ≡ read (others (take (width kind) rest.bytes)) (past (width kind) rest)
read_good kind others rest long good =
    let whole : ltb (length rest.bytes) (width kind) ≡ false = le-ltb _ _ long in
    rw (whole, good) refl

pub read_bad : {A : Type 0} (kind : FieldKind) (others : List ℕ → Format A) (rest : Rest) → width kind ≤ length rest.bytes →
    is_good kind (take (width kind) rest.bytes) ≡ false
    → read (Next kind others) rest ≡ Err (fault_of kind rest.at)
read_bad kind others rest long bad =
    let whole : ltb (length rest.bytes) (width kind) ≡ false = le-ltb _ _ long in
    rw (whole, bad) refl

pub read_short : {A : Type 0} (kind : FieldKind) (others : List ℕ → Format A) (rest : Rest) → length rest.bytes < width kind
    → read (Next kind others) rest ≡ Err (fault.EndsEarly (rest.at + length rest.bytes))
read_short kind others rest short =
    let less : ltb (length rest.bytes) (width kind) ≡ true = lt-ltb _ _ short in
    rw less refl

-- a whole good field at the front, whatever follows it
pub read_next : {A : Type 0} (kind : FieldKind) (others : List ℕ → Format A) (bytes : List ℕ) (at : ℕ) (tail : List ℕ) →
    length bytes ≡ width kind → is_good kind bytes ≡ true
    → read (Next kind others) (rest_at at (bytes ++ tail)) ≡ read (others bytes) (rest_at (at + width kind) tail)
read_next kind others bytes at tail len good =
    let long : width kind ≤ length (bytes ++ tail) = omega (arith, length-append bytes tail) in
    let front : take (width kind) (bytes ++ tail) ≡ bytes = take_at bytes tail (width kind) len in
    let back : drop (width kind) (bytes ++ tail) ≡ tail = drop_at bytes tail (width kind) len in
    let good_front : is_good kind (take (width kind) (bytes ++ tail)) ≡ true = rw front good in
    read_good kind others (rest_at at (bytes ++ tail)) long good_front ∙ rw (front, back) refl

-- fields that follow the format are read as what they make
pub read_again : {A : Type 0} (s : Format A) (fs : List Field) (x : A) (at : ℕ) (tail : List ℕ) → Follows s fs x
    → read s (rest_at at (bytes_of fs ++ tail)) ≡ Ok (x, rest_at (at + length (bytes_of fs)) tail)
read_again (Done made) fs x at tail h =
    let place : at + length (bytes_of []) ≡ at = omega arith in
    rw (h.0, h.1, place) refl
read_again (Next kind others) [] x at tail h = absurd h
read_again (Next kind others) (f ∷ fs) x at tail h =
    let grouped : (f.bytes ++ bytes_of fs) ++ tail ≡ f.bytes ++ (bytes_of fs ++ tail) = append_assoc f.bytes (bytes_of fs) tail in
    let place : at + width kind + length (bytes_of fs) ≡ at + length (f.bytes ++ bytes_of fs) =
    omega (arith, h.1, length-append f.bytes (bytes_of fs)) in
    ap (λ (b : List ℕ). read (Next kind others) (rest_at at b)) grouped
    ∙ read_next kind others f.bytes at (bytes_of fs ++ tail) h.1 h.2
    ∙ read_again (others f.bytes) fs x (at + width kind) tail h.3
    ∙ ap (λ (n : ℕ). Ok (x, rest_at n tail)) place

-- what is to be read after a front of them
pub read_front : {A : Type 0} (s : Format A) (front : List Field) (next : Field) (others : List Field) (x : A) →
    Follows s (front ++ next ∷ others) x
    → (t : List ℕ → Format A) × ((at : ℕ) (tail : List ℕ) →
    read s (rest_at at (bytes_of front ++ tail)) ≡ read (Next next.kind t) (rest_at (at + length (bytes_of front)) tail))
read_front (Done made) [] next others x h = absurd (let e = h.0 in cc)
read_front (Done made) (f ∷ fs) next others x h = absurd (let e = h.0 in cc)
read_front {A} (Next kind t) [] next others x h = (
  t,
  λ at tail.
      let place : at + length (bytes_of []) ≡ at = omega arith in
      rw (place, h.0) refl,
)
read_front {A} (Next kind t) (f ∷ fs) next others x h =
    let later = read_front (t f.bytes) fs next others x h.3 in (
      later.0,
      λ at tail.
          let grouped : (f.bytes ++ bytes_of fs) ++ tail ≡ f.bytes ++ (bytes_of fs ++ tail) = append_assoc f.bytes (bytes_of fs) tail in
          let place : at + width kind + length (bytes_of fs) ≡ at + length (f.bytes ++ bytes_of fs) =
          omega (arith, h.1, length-append f.bytes (bytes_of fs)) in
          ap (λ (b : List ℕ). read (Next kind t) (rest_at at b)) grouped
          ∙ read_next kind t f.bytes at (bytes_of fs ++ tail) h.1 h.2
          ∙ later.1 (at + width kind) tail
          ∙ ap (λ (n : ℕ). read (Next next.kind later.0) (rest_at n tail)) place,
    )

-- where fields that follow stop, the fault is met
pub stops_short : {A : Type 0} (s : Format A) (front : List Field) (next : Field) (others : List Field) (x : A) (at : ℕ)
    (tail : List ℕ) → Follows s (front ++ next ∷ others) x → length tail < width next.kind
    → read s (rest_at at (bytes_of front ++ tail)) ≡ Err (fault.EndsEarly (at + length (bytes_of front ++ tail)))
stops_short s front next others x at tail h short =
    let later = read_front s front next others x h in
    let place : at + length (bytes_of front) + length tail ≡ at + length (bytes_of front ++ tail) =
    omega (arith, length-append (bytes_of front) tail) in
    later.1 at tail ∙ read_short next.kind later.0 (rest_at (at + length (bytes_of front)) tail) short
    ∙ ap (λ (n : ℕ). Err (fault.EndsEarly n)) place

pub stops_bad : {A : Type 0} (s : Format A) (front : List Field) (next : Field) (others : List Field) (x : A) (at : ℕ)
    (tail : List ℕ) → Follows s (front ++ next ∷ others) x → width next.kind ≤ length tail
    → is_good next.kind (take (width next.kind) tail) ≡ false →
    read s (rest_at at (bytes_of front ++ tail)) ≡ Err (fault_of next.kind (at + length (bytes_of front)))
stops_bad s front next others x at tail h whole bad =
    let later = read_front s front next others x h in
    later.1 at tail ∙ read_bad next.kind later.0 (rest_at (at + length (bytes_of front)) tail) whole bad

-- ---- what was read

-- each field has bytes
abbrev pub AreBytes : List Field → Type 0
AreBytes [] = Unit {0}
AreBytes (f ∷ fs) = IsBytes f.bytes × AreBytes fs

-- the fields that were read
pub record WasRead {A : Type 0} (s : Format A) (rest : Rest) (x : A) (left : Rest) : Type 0 where
  pub fields : List Field
  pub follows : Follows s fields x
  pub fields_are_bytes : AreBytes fields
  pub left_is_bytes : IsBytes left.bytes
  pub parts : rest.bytes ≡ bytes_of fields ++ left.bytes
  pub at : left.at ≡ rest.at + length (bytes_of fields)

abbrev done : {A : Type 0} → A → Rest → Result (A × Rest) FileFault
done x rest = Ok (x, rest)

abbrev the_pair : {A : Type 0} → A → Rest → A × Rest
the_pair x rest = (x, rest)

done_is : {A : Type 0} (x y : A) (r t : Rest) → done x r ≡ done y t → (x ≡ y) × (r ≡ t)
done_is {A} x y r t e =
    let both : the_pair x r ≡ the_pair y t = cc in
    (ap (λ (p : A × Rest). p.0) both, ap (λ (p : A × Rest). p.1) both)

-- a chosen result that is no fault was chosen by a test that failed
not_refused : {X : Type 0} (b : Bool) (found : FileFault) (y : Result X FileFault) (x : X) → cond b (Err found) y ≡ Ok x →
    (b ≡ false) × (y ≡ Ok x)
not_refused true found y x e = absurd cc
not_refused false found y x e = (refl, e)

not_bad : {X : Type 0} (b : Bool) (found : FileFault) (y : Result X FileFault) (x : X) → cond b y (Err found) ≡ Ok x →
    (b ≡ true) × (y ≡ Ok x)
not_bad true found y x e = (refl, e)
not_bad false found y x e = absurd cc

pub read_found : {A : Type 0} (s : Format A) (rest : Rest) (x : A) (left : Rest) → IsBytes rest.bytes →
    read s rest ≡ Ok (x, left) → WasRead s rest x left
read_found (Done made) rest x left h e =
    let both = done_is made x rest left e in
    record {
      fields = [];
      follows = (refl, both.0);
      fields_are_bytes = tt;
      left_is_bytes = subst (λ (r : Rest). IsBytes r.bytes) both.1 h;
      parts = ap (λ (r : Rest). r.bytes) both.1;
      at = let same : rest.at ≡ left.at = ap (λ (r : Rest). r.at) both.1 in omega arith;
    }
read_found {A} (Next kind others) rest x left h e =
    let bytes = take (width kind) rest.bytes in
    let goes_on : Result (A × Rest) FileFault = read (others bytes) (past (width kind) rest) in
    let long = not_refused (ltb (length rest.bytes) (width kind)) (fault.EndsEarly (rest.at + length rest.bytes))
    (cond (is_good kind bytes) goes_on (Err (fault_of kind rest.at))) (x, left) e in
    let good = not_bad (is_good kind bytes) (fault_of kind rest.at) goes_on (x, left) long.1 in
    let whole : width kind ≤ length rest.bytes = ltb-false _ _ long.0 in
    let len : length bytes ≡ width kind = omega (arith, length-take (width kind) rest.bytes) in
    let later = read_found (others bytes) (past (width kind) rest) x left (IsBytes-drop (width kind) rest.bytes h) good.1 in
    let first : Field = record { kind = kind; bytes = bytes } in
    record {
      fields = first ∷ later.fields;
      follows = (refl, len, good.0, later.follows);
      fields_are_bytes = (IsBytes-take (width kind) rest.bytes h, later.fields_are_bytes);
      left_is_bytes = later.left_is_bytes;
      parts = sym (take-append-drop (width kind) rest.bytes) ∙ ap (λ (b : List ℕ). bytes ++ b) later.parts
          ∙ sym (append_assoc bytes (bytes_of later.fields) left.bytes);
      at = omega (arith, later.at, len, length-append bytes (bytes_of later.fields));
    }

-- ---- each format can be followed

abbrev good_example : FieldKind → List ℕ
good_example (Mark place) = slice_index mark_bytes place ∷ []
good_example VersionMark = 0x31 ∷ []
good_example Locals = 0 ∷ []
good_example Sets = 0 ∷ []
good_example Patterns = 0 ∷ 0 ∷ []
good_example Pattern = 0 ∷ 0 ∷ 0 ∷ 0 ∷ 0 ∷ 0 ∷ 0 ∷ []
good_example IntSets = 0 ∷ []
good_example Ranges = 0 ∷ 0 ∷ []
good_example Range = 0 ∷ 0 ∷ 0 ∷ 0 ∷ 0 ∷ 0 ∷ 0 ∷ 0 ∷ []
good_example Instructions = 0 ∷ 0 ∷ []
good_example (Opcode v) = 0x71 ∷ []
good_example WordOperand = 0 ∷ 0 ∷ 0 ∷ 0 ∷ []
good_example TruthOperand = 0 ∷ []
good_example PrefixOperand = 0 ∷ 0 ∷ 0 ∷ 0 ∷ 0 ∷ []
good_example NameOperand = 0 ∷ []
good_example BitsOperand = 0 ∷ []
good_example SkipOperand = 0 ∷ 0 ∷ []

mark_is_bytes : IsBytes mark_bytes
mark_is_bytes zero = lit< tt
mark_is_bytes (suc zero) = lit< tt
mark_is_bytes (suc (suc zero)) = lit< tt
mark_is_bytes (suc (suc (suc i))) = lit< tt

pub record IsGoodField (kind : FieldKind) (bytes : List ℕ) : Type 0 where
  pub len : length bytes ≡ width kind
  pub good : is_good kind bytes ≡ true
  pub are_bytes : IsBytes bytes

example_is_good : (kind : FieldKind) → IsGoodField kind (good_example kind)
unfolding bits number form_of
example_is_good (Mark place) = record { len = refl; good = eq-eqb _ _ (omega arith); are_bytes = one_byte _ (mark_is_bytes place) }
example_is_good VersionMark = record { len = refl; good = refl; are_bytes = one_byte 0x31 (lit< tt) }
example_is_good Locals = record { len = refl; good = refl; are_bytes = zeros_are_bytes 1 }
example_is_good Sets = record { len = refl; good = refl; are_bytes = zeros_are_bytes 1 }
example_is_good Patterns = record { len = refl; good = refl; are_bytes = zeros_are_bytes 2 }
example_is_good Pattern = record { len = refl; good = refl; are_bytes = zeros_are_bytes 7 }
example_is_good IntSets = record { len = refl; good = refl; are_bytes = zeros_are_bytes 1 }
example_is_good Ranges = record { len = refl; good = refl; are_bytes = zeros_are_bytes 2 }
example_is_good Range = record { len = refl; good = refl; are_bytes = zeros_are_bytes 8 }
example_is_good Instructions = record { len = refl; good = refl; are_bytes = zeros_are_bytes 2 }
example_is_good (Opcode v) = record { len = refl; good = refl; are_bytes = one_byte 0x71 (lit< tt) }
example_is_good WordOperand = record { len = refl; good = refl; are_bytes = zeros_are_bytes 4 }
example_is_good TruthOperand = record { len = refl; good = refl; are_bytes = zeros_are_bytes 1 }
example_is_good PrefixOperand = record { len = refl; good = refl; are_bytes = zeros_are_bytes 5 }
example_is_good NameOperand = record { len = refl; good = refl; are_bytes = zeros_are_bytes 1 }
example_is_good BitsOperand = record { len = refl; good = refl; are_bytes = zeros_are_bytes 1 }
example_is_good SkipOperand = record { len = refl; good = refl; are_bytes = zeros_are_bytes 2 }

pub record IsFollowed {A : Type 0} (s : Format A) : Type 0 where
  pub fields : List Field
  pub made : A
  pub follows : Follows s fields made
  pub fields_are_bytes : AreBytes fields

pub some_follow : {A : Type 0} (s : Format A) → IsFollowed s
some_follow (Done made) = record { fields = []; made = made; follows = (refl, refl); fields_are_bytes = tt }
some_follow (Next kind others) =
    let bytes = good_example kind in
    let good = example_is_good kind in
    let later = some_follow (others bytes) in
    let first : Field = record { kind = kind; bytes = bytes } in
    record {
      fields = first ∷ later.fields;
      made = later.made;
      follows =
          (refl, good.len, good.good, later.follows);
      fields_are_bytes = (good.are_bytes, later.fields_are_bytes);
    }

-- ---- what was not read

-- where reading stopped: before a field of the kind of next, for which tail is left
pub record Stopped {A : Type 0} (s : Format A) (rest : Rest) (found : FileFault) : Type 0 where
  pub front : List Field
  pub next : Field
  pub others : List Field
  pub made : A
  pub follows : Follows s (front ++ next ∷ others) made
  pub fields_are_bytes : AreBytes (front ++ next ∷ others)
  pub tail : List ℕ
  pub parts : rest.bytes ≡ bytes_of front ++ tail
  pub why : ((length tail < width next.kind) × (found ≡ fault.EndsEarly (rest.at + length rest.bytes)))
      ⊎ ((width next.kind ≤ length tail) × (is_good next.kind (take (width next.kind) tail) ≡ false)
      × (found ≡ fault_of next.kind (rest.at + length (bytes_of front))))

-- reading stopped at the first field
stopped_here : {A : Type 0} (kind : FieldKind) (others : List ℕ → Format A) (rest : Rest) (found : FileFault) → IsBytes rest.bytes
    → ((length rest.bytes < width kind) × (found ≡ fault.EndsEarly (rest.at + length rest.bytes)))
    ⊎ ((width kind ≤ length rest.bytes) × (is_good kind (take (width kind) rest.bytes) ≡ false) × (found ≡ fault_of kind rest.at))
    → Stopped (Next kind others) rest found
stopped_here kind others rest found h why =
    let bytes = good_example kind in
    let good = example_is_good kind in
    let later = some_follow (others bytes) in
    let first : Field = record { kind = kind; bytes = bytes } in
    let place : rest.at ≡ rest.at + length (bytes_of []) = omega arith in
    record {
      front = [];
      next = first;
      others = later.fields;
      made = later.made;
      follows = (refl, good.len, good.good, later.follows);
      fields_are_bytes = (good.are_bytes, later.fields_are_bytes);
      tail = rest.bytes;
      parts = refl;
      why = elim why [ inl short ↦ inl short | inr bad ↦ inr (bad.0, bad.1, bad.2 ∙ ap (fault_of kind) place) ];
    }

bool_cases : (b : Bool) → (b ≡ true) ⊎ (b ≡ false)
bool_cases true = inl refl
bool_cases false = inr refl

err_is : {X : Type 0} (r : Result X FileFault) (d e : FileFault) → r ≡ Err d → r ≡ Err e → e ≡ d
err_is r d e p q = cc

pub read_refused : {A : Type 0} (s : Format A) (rest : Rest) (found : FileFault) → IsBytes rest.bytes →
    read s rest ≡ Err found → Stopped s rest found
read_refused (Done made) rest found h e = absurd cc
read_refused (Next kind others) rest found h e =
    let bytes = take (width kind) rest.bytes in
    elim (cases_lt (length rest.bytes) (width kind)) [
      | inl short ↦ stopped_here kind others rest found h
          (inl (
            short,
            err_is (read (Next kind others) rest) (fault.EndsEarly (rest.at + length rest.bytes)) found
                (read_short kind others rest short) e,
          ))
      | inr long ↦ elim (bool_cases (is_good kind bytes)) [
        | inr bad ↦ stopped_here kind others rest found h
            (inr (
              long,
              bad,
              err_is (read (Next kind others) rest) (fault_of kind rest.at) found
                  (read_bad kind others rest long bad) e,
            ))
        | inl good ↦
            let later = read_refused (others bytes) (past (width kind) rest) found (IsBytes-drop (width kind) rest.bytes h)
            (sym (read_good kind others rest long good) ∙ e) in
            let first : Field = record { kind = kind; bytes = bytes } in
            let len : length bytes ≡ width kind = omega (arith, length-take (width kind) rest.bytes) in
            let all : rest.at + width kind + length (drop (width kind) rest.bytes) ≡ rest.at + length rest.bytes =
            omega (arith, length-drop (width kind) rest.bytes) in
            let place : rest.at + width kind + length (bytes_of later.front) ≡ rest.at + length
            (bytes ++ bytes_of later.front) = omega (arith, len, length-append bytes (bytes_of later.front)) in
            record {
              front = first ∷ later.front;
              next = later.next;
              others = later.others;
              made = later.made;
              follows = (refl, len, good, later.follows);
              fields_are_bytes = (IsBytes-take (width kind) rest.bytes h, later.fields_are_bytes);
              tail = later.tail;
              parts = sym (take-append-drop (width kind) rest.bytes) ∙ ap (λ (b : List ℕ). bytes ++ b) later.parts
                  ∙ sym (append_assoc bytes (bytes_of later.front) later.tail);
              why = elim later.why [
                | inl short ↦ inl (short.0, short.1 ∙ ap (λ (n : ℕ). fault.EndsEarly n) all)
                | inr bad ↦ inr
                    (bad.0, bad.1, bad.2 ∙ ap (fault_of later.next.kind) place)
              ];
            }
      ]
    ]

-- ---- one format after another

pub follows_then : {A B : Type 0} (s : Format A) (later : A → Format B) (fs gs : List Field) (x : A) (y : B) → Follows s fs x →
    Follows (later x) gs y → Follows (s >>= later) (fs ++ gs) y
follows_then (Done made) later fs gs x y h k =
    rw (h.0, h.1) k
follows_then (Next kind others) later [] gs x y h k = absurd h
follows_then (Next kind others) later (f ∷ fs) gs x y h k = (h.0, h.1, h.2, follows_then (others f.bytes) later fs gs x y h.3 k)

-- fields that follow two formats are those of the first and those of the second
pub record FollowsBoth {A B : Type 0} (s : Format A) (later : A → Format B) (fs : List Field) (y : B) : Type 0 where
  pub first : List Field
  pub second : List Field
  pub made : A
  pub parts : fs ≡ first ++ second
  pub follows_first : Follows s first made
  pub follows_second : Follows (later made) second y
  pub first_are_bytes : AreBytes first
  pub second_are_bytes : AreBytes second

pub follows_both : {A B : Type 0} (s : Format A) (later : A → Format B) (fs : List Field) (y : B) → AreBytes fs →
    Follows (s >>= later) fs y → FollowsBoth s later fs y
follows_both (Done made) later fs y b h =
    record {
      first = [];
      second = fs;
      made = made;
      parts = refl;
      follows_first = (refl, refl);
      follows_second =
          h;
      first_are_bytes = tt;
      second_are_bytes = b;
    }
follows_both (Next kind others) later [] y b h = absurd h
follows_both (Next kind others) later (f ∷ fs) y b h =
    let both = follows_both (others f.bytes) later fs y b.1 h.3 in
    record {
      first = f ∷ both.first;
      second = both.second;
      made = both.made;
      parts = ap (λ (gs : List Field). f ∷ gs) both.parts;
      follows_first = (h.0, h.1, h.2, both.follows_first);
      follows_second = both.follows_second;
      first_are_bytes = (b.0, both.first_are_bytes);
      second_are_bytes = both.second_are_bytes;
    }

-- what is read after something was read
abbrev pub and_then : {A B : Type 0} → Result (A × Rest) FileFault → (A → Format B) → Result (B × Rest) FileFault
and_then (Ok made) later = read (later made.0) made.1
and_then (Err found) later = Err found

and_then_if : {A B : Type 0} (short good : Bool) (d e : FileFault) (r : Result (A × Rest) FileFault) (later : A → Format B) →
    cond short (Err d) (cond good (and_then r later) (Err e)) ≡ and_then (cond short (Err d) (cond good r (Err e))) later
and_then_if true good d e r later = refl
and_then_if false true d e r later = refl
and_then_if false false d e r later = refl

pub read_then : {A B : Type 0} (s : Format A) (later : A → Format B) (rest : Rest) → read (s >>= later) rest ≡ and_then (read s rest) later
read_then (Done made) later rest = refl
read_then {A} {B} (Next kind others) later rest =
    let bytes = take (width kind) rest.bytes in
    let short = ltb (length rest.bytes) (width kind) in
    ap (λ (r : Result (B × Rest) FileFault). cond short (Err (fault.EndsEarly (rest.at + length rest.bytes)))
    (cond (is_good kind bytes) r (Err (fault_of kind rest.at)))) (read_then (others bytes) later (past (width kind) rest))
    ∙ and_then_if short (is_good kind bytes) (fault.EndsEarly (rest.at + length rest.bytes)) (fault_of kind rest.at)
    (read (others bytes) (past (width kind) rest)) later

-- ---- all of the bytes, from the first

abbrev pub from_start : List ℕ → Rest
from_start bytes = rest_at 0 bytes

pub whole_again : {A : Type 0} (s : Format A) (fs : List Field) (x : A) → Follows s fs x → whole (read s (from_start (bytes_of fs))) ≡ Ok x
whole_again {A} s fs x h =
    ap (λ (bytes : List ℕ). whole (read s (from_start bytes))) (sym (append-nil (bytes_of fs)))
    ∙ ap (λ (r : Result (A × Rest) FileFault). whole r) (read_again s fs x 0 [] h)

pub whole_long : {A : Type 0} (s : Format A) (fs : List Field) (x : A) (next : ℕ) (others : List ℕ) → Follows s fs x →
    whole (read s (from_start (bytes_of fs ++ next ∷ others))) ≡ Err (fault.BytesAfterEnd (length (bytes_of fs)))
whole_long {A} s fs x next others h =
    let more : eqb (length (next ∷ others)) 0 ≡ false = ne_eqb _ _ (λ e. omega (arith, e)) in
    let place : 0 + length (bytes_of fs) ≡ length (bytes_of fs) = omega arith in
    ap (λ (r : Result (A × Rest) FileFault). whole r) (read_again s fs x 0 (next ∷ others) h) ∙ rw (more, place) refl

pub whole_short : {A : Type 0} (s : Format A) (front : List Field) (next : Field) (others : List Field) (x : A)
    (tail : List ℕ) → Follows s (front ++ next ∷ others) x → length tail < width next.kind
    → whole (read s (from_start (bytes_of front ++ tail))) ≡ Err (fault.EndsEarly (length (bytes_of front ++ tail)))
whole_short {A} s front next others x tail h short =
    let place : 0 + length (bytes_of front ++ tail) ≡ length (bytes_of front ++ tail) = omega arith in
    ap (λ (r : Result (A × Rest) FileFault). whole r) (stops_short s front next others x 0 tail h short) ∙ rw place refl

pub whole_bad : {A : Type 0} (s : Format A) (front : List Field) (next : Field) (others : List Field) (x : A) (tail : List ℕ) →
    Follows s (front ++ next ∷ others) x → width next.kind ≤ length tail
    → is_good next.kind (take (width next.kind) tail) ≡ false →
    whole (read s (from_start (bytes_of front ++ tail))) ≡ Err (fault_of next.kind (length (bytes_of front)))
whole_bad {A} s front next others x tail h long bad =
    let place : 0 + length (bytes_of front) ≡ length (bytes_of front) = omega arith in
    ap (λ (r : Result (A × Rest) FileFault). whole r) (stops_bad s front next others x 0 tail h long bad) ∙ rw place refl

-- fields that are all of the bytes
pub record AreAll {A : Type 0} (s : Format A) (bytes : List ℕ) (x : A) : Type 0 where
  pub fields : List Field
  pub follows : Follows s fields x
  pub fields_are_bytes : AreBytes fields
  pub parts : bytes ≡ bytes_of fields

-- fields after which bytes follow
pub record AreNotAll {A : Type 0} (s : Format A) (bytes : List ℕ) (found : FileFault) : Type 0 where
  pub made : A
  pub fields : List Field
  pub follows : Follows s fields made
  pub fields_are_bytes : AreBytes fields
  pub next : ℕ
  pub others : List ℕ
  pub parts : bytes ≡ bytes_of fields ++ next ∷ others
  pub is : found ≡ fault.BytesAfterEnd (length (bytes_of fields))

abbrev refused : {A : Type 0} → FileFault → Result A FileFault
refused found = Err found

none_left : {A : Type 0} (bytes : List ℕ) (x y : A) (found : FileFault) →
    cond (eqb (length bytes) 0) (Ok x) (Err found) ≡ Ok y → (bytes ≡ []) × (x ≡ y)
none_left [] x y found e = (refl, cc)
none_left (b ∷ bytes) x y found e =
    let more : eqb (length (b ∷ bytes)) 0 ≡ false = ne_eqb _ _ (λ e. omega (arith, e)) in
    absurd (let refused = rw more at e in cc)

whole_found_from : {A : Type 0} (s : Format A) (bytes : List ℕ) (x : A) (r : Result (A × Rest) FileFault) → IsBytes bytes →
    read s (from_start bytes) ≡ r → whole r ≡ Ok x → AreAll s bytes x
whole_found_from s bytes x (Err found) h e w = absurd cc
whole_found_from {A} s bytes x (Ok made) h e w =
    let none = none_left made.1.bytes made.0 x (fault.BytesAfterEnd made.1.at) w in
    let was = read_found s (from_start bytes) made.0 made.1 h e in
    record {
      fields = was.fields;
      follows = subst (λ (y : A). Follows s was.fields y) none.1 was.follows;
      fields_are_bytes = was.fields_are_bytes;
      parts = was.parts ∙ ap (λ (b : List ℕ). bytes_of was.fields ++ b) none.0 ∙ append-nil (bytes_of was.fields);
    }

pub whole_found : {A : Type 0} (s : Format A) (bytes : List ℕ) (x : A) → IsBytes bytes →
    whole (read s (from_start bytes)) ≡ Ok x → AreAll s bytes x
whole_found s bytes x h w = whole_found_from s bytes x (read s (from_start bytes)) h refl w

some_left : {A : Type 0} (s : Format A) (bytes : List ℕ) (was : List Field) (x : A) (left : List ℕ) (at : ℕ)
    (found : FileFault) → Follows s was x → AreBytes was → bytes ≡ bytes_of was ++ left → at ≡ 0 + length (bytes_of was)
    → cond (eqb (length left) 0) (Ok x) (Err (fault.BytesAfterEnd at)) ≡ Err found → AreNotAll s bytes found
some_left s bytes was x [] at found h b parts place e = absurd cc
some_left {A} s bytes was x (next ∷ others) at found h b parts place e =
    let more : eqb (length (next ∷ others)) 0 ≡ false = ne_eqb _ _ (λ e. omega (arith, e)) in
    let here : at ≡ length (bytes_of was) = omega (arith, place) in
    let both : refused {A = A} (fault.BytesAfterEnd at) ≡ refused {A = A} found = rw more at e in
    let same : found ≡ fault.BytesAfterEnd at = cc in
    record {
      made = x;
      fields = was;
      follows = h;
      fields_are_bytes = b;
      next = next;
      others = others;
      parts = parts;
      is =
          same ∙ ap (λ (n : ℕ). fault.BytesAfterEnd n) here;
    }

err_again : {A : Type 0} (r : Result (A × Rest) FileFault) (d e : FileFault) → r ≡ Err d → refused {A = A} d ≡ refused {A = A} e → r ≡ Err e
err_again r d e p q = let same : d ≡ e = cc in p ∙ ap (λ (f : FileFault). Err f) same

whole_refused_from : {A : Type 0} (s : Format A) (bytes : List ℕ) (found : FileFault) (r : Result (A × Rest) FileFault) →
    IsBytes bytes → read s (from_start bytes) ≡ r → whole r ≡ Err found
    → Stopped s (from_start bytes) found ⊎ AreNotAll s bytes found
whole_refused_from {A} s bytes found (Err other) h e w =
    inl (read_refused s (from_start bytes) found h (err_again (read s (from_start bytes)) other found e w))
whole_refused_from s bytes found (Ok made) h e w =
    let was = read_found s (from_start bytes) made.0 made.1 h e in
    inr (some_left s bytes was.fields made.0 made.1.bytes made.1.at found was.follows was.fields_are_bytes was.parts was.at w)

pub whole_refused : {A : Type 0} (s : Format A) (bytes : List ℕ) (found : FileFault) → IsBytes bytes →
    whole (read s (from_start bytes)) ≡ Err found → Stopped s (from_start bytes) found ⊎ AreNotAll s bytes found
whole_refused s bytes found h w = whole_refused_from s bytes found (read s (from_start bytes)) h refl w
