-- Reading in steps: one format after another, and one format n times, as a loop does.
use Rattle.std.proofs.Common.{◌≡◌, ℕ, suc, ◌+◌, ◌-◌, ◌<◌, ◌≤◌, true, false, eqb, List, [], ◌∷◌, ◌++◌, length, Result, Ok, Err}
use Rattle.std.proofs.Common.{refl, sym, ap, ◌∙◌, append_assoc, arith, eq-eqb, inl, inr}
use Rattle.std.proofs.lemmas.Bool.{ne_eqb}
use Rattle.std.proofs.lemmas.List.{append-nil}
use Rattle.code_file.specs.declared.fault.FileFault.{FileFault}
use Rattle.code_file.specs.declared.fault.FileFault.TheVariants as fault
use Rattle.code_file.specs.Reading.{Format, ◌>>=◌, times, Rest, read, whole, Reads, ReadsInto}
use Rattle.code_file.specs.Reading.Format.{Done}
use Rattle.code_file.proofs.Formats.{and_then, read_then}

-- after a first format that was read
pub reads_on : {A B : Type 0} (s : Format A) (later : A → Format B) (rest left : Rest) (x : A) → read s rest ≡ Ok (x, left) →
    read (s >>= later) rest ≡ read (later x) left
reads_on {A} s later rest left x h = read_then s later rest ∙ ap (λ (r : Result (A × Rest) FileFault). and_then r later) h

-- a fault of the first format is one of both
pub reads_no_more : {A B : Type 0} (s : Format A) (later : A → Format B) (rest : Rest) (found : FileFault) →
    read s rest ≡ Err found → read (s >>= later) rest ≡ Err found
reads_no_more {A} s later rest found h = read_then s later rest ∙ ap (λ (r : Result (A × Rest) FileFault). and_then r later) h

-- after a first format that was read, a reader of the second is one of both
pub reads_both : {A B X : Type 0} (view : X → B) (s : Format A) (later : A → Format B) (rest left new : Rest) (x : A)
    (r : Result X FileFault) → read s rest ≡ Ok (x, left) → Reads view (later x) left new r → Reads view (s >>= later) rest new r
reads_both view s later rest left new x (Ok y) h given = reads_on s later rest left x h ∙ given
reads_both view s later rest left new x (Err found) h given = reads_on s later rest left x h ∙ given

-- the same of a reader that needs memory, which may be refused
pub reads_into_both : {A B X : Type 0} (view : X → B) (s : Format A) (later : A → Format B) (rest left new : Rest) (x : A)
    (r : Result X FileFault) → read s rest ≡ Ok (x, left) → ReadsInto view (later x) left new r →
    ReadsInto view (s >>= later) rest new r
reads_into_both view s later rest left new x (Ok y) h given = reads_on s later rest left x h ∙ given
reads_into_both view s later rest left new x (Err found) h (inl none) = inl none
reads_into_both view s later rest left new x (Err found) h (inr met) = inr (reads_on s later rest left x h ∙ met)

-- what was read before, and what is still read
abbrev pub with_front : {A : Type 0} → List A → Result (List A × Rest) FileFault → Result (List A × Rest) FileFault
with_front front (Ok made) = Ok (front ++ made.0, made.1)
with_front front (Err found) = Err found

pub none_before : {A : Type 0} (r : Result (List A × Rest) FileFault) → with_front [] r ≡ r
none_before (Ok made) = refl
none_before (Err found) = refl

regroup : {A : Type 0} (front : List A) (one : A) (r : Result (List A × Rest) FileFault) →
    with_front front (and_then r (λ others. Done (one ∷ others))) ≡ with_front (front ++ one ∷ []) r
regroup {A} front one (Ok made) = ap (λ (xs : List A). Ok (xs, made.1)) (simp append_assoc)
regroup front one (Err found) = refl

first_of_them : {A : Type 0} (s : Format A) (k : ℕ) (rest left : Rest) (one : A) → read s rest ≡ Ok (one, left) →
    read (times (suc k) s) rest ≡ and_then (read (times k s) left) (λ others. Done (one ∷ others))
unfolding times
first_of_them s k rest left one h =
    reads_on s (λ first. times k s >>= λ others. Done (first ∷ others)) rest left one h ∙ read_then (times k s)
    (λ others. Done (one ∷ others)) left

none_of_them : {A : Type 0} (s : Format A) (k : ℕ) (rest : Rest) (found : FileFault) → read s rest ≡ Err found →
    read (times (suc k) s) rest ≡ Err found
unfolding times
none_of_them s k rest found h = reads_no_more s (λ first. times k s >>= λ others. Done (first ∷ others)) rest found h

pub goes_on : {A : Type 0} (s : Format A) (front : List A) (count i : ℕ) (rest left : Rest) (one : A)
    (total : Result (List A × Rest) FileFault) → i < count → read s rest ≡ Ok (one, left)
    → with_front front (read (times (count - i) s) rest) ≡ total →
    with_front (front ++ one ∷ []) (read (times (count - (i + 1)) s) left) ≡ total
goes_on s front count i rest left one total lt h so_far =
    let k : count - i ≡ suc (count - (i + 1)) = omega arith in
    sym (regroup front one (read (times (count - (i + 1)) s) left))
    ∙ ap (with_front front) (sym (first_of_them s (count - (i + 1)) rest left one h))
    ∙ ap (λ (n : ℕ). with_front front (read (times n s) rest)) (sym k)
    ∙ so_far

pub stops : {A : Type 0} (s : Format A) (front : List A) (count i : ℕ) (rest : Rest) (found : FileFault)
    (total : Result (List A × Rest) FileFault) → i < count → read s rest ≡ Err found
    → with_front front (read (times (count - i) s) rest) ≡ total → total ≡ Err found
stops s front count i rest found total lt h so_far =
    let k : count - i ≡ suc (count - (i + 1)) = omega arith in
    sym so_far
    ∙ ap (λ (n : ℕ). with_front front (read (times n s) rest)) k
    ∙ ap (with_front front) (none_of_them s (count - (i + 1)) rest found h)

pub ends : {A : Type 0} (s : Format A) (front : List A) (count i : ℕ) (rest : Rest) (total : Result (List A × Rest) FileFault) →
    count ≤ i → with_front front (read (times (count - i) s) rest) ≡ total → total ≡ Ok (front, rest)
unfolding times
ends {A} s front count i rest total le so_far =
    let k : count - i ≡ 0 = omega arith in
    sym so_far
    ∙ ap (λ (n : ℕ). with_front front (read (times n s) rest)) k
    ∙ ap (λ (xs : List A). Ok (xs, rest)) (append-nil front)

-- bytes after what was made
pub more_after : {A : Type 0} (x : A) (left : Rest) → 0 < length left.bytes → whole (Ok (x, left)) ≡ Err (fault.BytesAfterEnd left.at)
more_after x left more =
    let some : eqb (length left.bytes) 0 ≡ false = ne_eqb _ _ (λ e. omega (arith, e)) in
    rw some refl

-- nothing after what was made
pub none_after : {A : Type 0} (x : A) (left : Rest) → length left.bytes ≡ 0 → whole (Ok (x, left)) ≡ Ok x
none_after x left none =
    let empty : eqb (length left.bytes) 0 ≡ true = eq-eqb _ _ none in
    rw empty refl
