-- What a sweep over ranges in the order of their first numbers tells of their labels.
use Rattle.std.proofs.Common.{◌≡◌, ◌≢◌, ℕ, suc, ◌+◌, ◌<◌, ◌≤◌, ◌⊎◌, inl, inr, nat_lt, eqb, not, cond, Bool, true, false}
use Rattle.std.proofs.Common.{List, [], ◌∷◌, get_or, All, refl, sym, ◌∙◌, arith}
use Rattle.std.proofs.lemmas.Bool.{eqb-true, eqb-false, ltb-true, ltb-false, lt-ltb, and_parts, and_cases, not-true, not-false, both_ways}
use Rattle.std.proofs.lemmas.Bool.{cases_eq, cases_lt}
use Rattle.std.proofs.lemmas.List.Elements.{All-head, All-tail, All-cons, All-nil}
use Rattle.std.proofs.lemmas.List.Sorted.{All-permutation}
use Rattle.std.specs.List.Sorted.{IsNonDecreasingBy, IsPermutation}
use Rattle.int_sets.specs.Holding.{NumberRange}
use Rattle.filter_types.specs.declared.labels.Labelled.{Labelled}
use Rattle.filter_types.specs.Sweep.{IsOrdered, AreDisjoint, AreApartBefore, AreAllApartBefore, meets, are_apart}

-- ranges of other labels than this one, before the count, begin at a number or after it
abbrev IsClear : ℕ → ℕ → ℕ → Labelled → Type 0
IsClear count end label y = y.label < count → y.label ≢ label → end ≤ y.range.low

-- each range ends before those of other labels after it begin
abbrev IsPassed : ℕ → List Labelled → Type 0
IsPassed count [] = Unit {0}
IsPassed count (x ∷ xs) = (x.label < count → All (IsClear count (x.range.high + 1) x.label) xs) × IsPassed count xs

-- ranges in the order of their first numbers, none of which ends before it begins
abbrev AreInOrder : List Labelled → Type 0
AreInOrder [] = Unit {0}
AreInOrder (x ∷ xs) = (x.range.low ≤ x.range.high) × All (λ y. x.range.low ≤ y.range.low) xs × AreInOrder xs

in_order : (xs : List Labelled) → IsNonDecreasingBy (λ x. x.range.low) xs → All IsOrdered xs → AreInOrder xs
in_order [] rising ordered = tt
in_order (x ∷ xs) rising ordered = (
  All-head IsOrdered x xs ordered,
  (λ k d inside. rising 0 (suc k) d (omega arith) (omega (arith, inside))),
  in_order xs (λ i j d low inside. rising (suc i) (suc j) d (omega (arith, low)) (omega (arith, inside))) (All-tail IsOrdered x xs ordered),
)

met : (x : Labelled) (end label : ℕ) → meets x end label ≡ true → (x.range.low < end) × (x.label ≢ label)
met x end label e =
    let parts = and_parts (nat_lt x.range.low end) (not (eqb x.label label)) e in
    (ltb-true x.range.low end parts.0, eqb-false x.label label (not-true (eqb x.label label) parts.1))

missed : (x : Labelled) (end label : ℕ) → meets x end label ≡ false → x.label ≢ label → end ≤ x.range.low
missed x end label e other = by_case (and_cases (nat_lt x.range.low end) (not (eqb x.label label)) e) where
  by_case : (nat_lt x.range.low end ≡ false) ⊎ (not (eqb x.label label) ≡ false) → end ≤ x.range.low
  by_case (inl late) = ltb-false x.range.low end late
  by_case (inr same) = absurd (other (eqb-true x.label label (not-false (eqb x.label label) same)))

-- what a sweep tells that meets nothing
abbrev Told : ℕ → ℕ → ℕ → List Labelled → Type 0
Told count end label xs = All (IsClear count end label) xs × IsPassed count xs

-- the range of another label that comes next is met or passed, so one of the same label may be left out of account
further_clear : (count end label : ℕ) (x y : Labelled) → x.range.low ≤ y.range.low → meets x end label ≡ false → end < x.range.high + 1
    → IsClear count (x.range.high + 1) x.label y → IsClear count end label y
further_clear count end label x y order m longer clear low other = by_case (cases_eq y.label x.label) where
  by_case : (y.label ≡ x.label) ⊎ (y.label ≡ x.label → ⊥) → end ≤ y.range.low
  by_case (inl same) = omega (arith, order, missed x end label m (λ e. other (same ∙ e)))
  by_case (inr differ) = omega (arith, longer, clear low differ)

shorter_clear : (count end label : ℕ) (x y : Labelled) → x.range.low ≤ x.range.high → meets x end label ≡ false → x.range.high + 1 ≤ end
    → IsClear count end label y → IsClear count (x.range.high + 1) x.label y
shorter_clear count end label x y order m shorter clear low other = by_case (cases_eq y.label label) where
  by_case : (y.label ≡ label) ⊎ (y.label ≡ label → ⊥) → x.range.high + 1 ≤ y.range.low
  by_case (inl same) = absurd (omega (arith, order, shorter, missed x end label m (λ e. other (same ∙ sym e))))
  by_case (inr differ) = omega (arith, shorter, clear low differ)

told_step : (count end label : ℕ) (x : Labelled) (xs : List Labelled) → AreInOrder (x ∷ xs)
    → (here : Bool) → nat_lt x.label count ≡ here → (hit : Bool) → meets x end label ≡ hit
    → (longer : Bool) → nat_lt end (x.range.high + 1) ≡ longer
    → cond here (cond hit false (cond longer (are_apart count (x.range.high + 1) x.label xs) (are_apart count end label xs)))
    (are_apart count end label xs) ≡ true
    → (are_apart count (x.range.high + 1) x.label xs ≡ true → Told count (x.range.high + 1) x.label xs)
    → (are_apart count end label xs ≡ true → Told count end label xs)
    → Told count end label (x ∷ xs)
told_step count end label x xs order false h hit m longer l e next same =
    let rest = same e in
    let past = λ (low : x.label < count). both_ways (nat_lt x.label count) h (lt-ltb x.label count low) in
    (All-cons (IsClear count end label) x xs (λ low other. absurd (past low)) rest.0, ((λ low. absurd (past low)), rest.1))
told_step count end label x xs order true h true m longer l e next same = absurd cc
told_step count end label x xs order true h false m true l e next same =
    let rest = next e in
    let longer = ltb-true end (x.range.high + 1) l in (
      All-cons (IsClear count end label) x xs (λ low other. missed x end label m other)
          (λ k d inside. further_clear count end label x (get_or xs k d) (order.1 k d inside) m longer (rest.0 k d inside)),
      ((λ low. rest.0), rest.1),
    )
told_step count end label x xs order true h false m false l e next same =
    let rest = same e in
    let shorter = ltb-false end (x.range.high + 1) l in (
      All-cons (IsClear count end label) x xs (λ low other. missed x end label m other) rest.0,
      ((λ low k d inside. shorter_clear count end label x (get_or xs k d) order.0 m shorter (rest.0 k d inside)), rest.1),
    )

told : (count end label : ℕ) (xs : List Labelled) → AreInOrder xs → are_apart count end label xs ≡ true → Told count end label xs
told count end label [] order e = (All-nil (IsClear count end label), tt)
told count end label (x ∷ xs) order e =
    told_step count end label x xs order (nat_lt x.label count) refl (meets x end label) refl (nat_lt end (x.range.high + 1)) refl e
    (told count (x.range.high + 1) x.label xs order.2) (told count end label xs order.2)

refuted_step : (count end label : ℕ) (x : Labelled) (xs : List Labelled)
    → (here : Bool) → nat_lt x.label count ≡ here → (hit : Bool) → meets x end label ≡ hit
    → (longer : Bool) → nat_lt end (x.range.high + 1) ≡ longer
    → cond here (cond hit false (cond longer (are_apart count (x.range.high + 1) x.label xs) (are_apart count end label xs)))
    (are_apart count end label xs) ≡ false
    → (are_apart count (x.range.high + 1) x.label xs ≡ false → Told count (x.range.high + 1) x.label xs → ⊥)
    → (are_apart count end label xs ≡ false → Told count end label xs → ⊥)
    → Told count end label (x ∷ xs) → ⊥
refuted_step count end label x xs false h hit m longer l e next same all =
    same e (All-tail (IsClear count end label) x xs all.0, all.1.1)
refuted_step count end label x xs true h true m longer l e next same all =
    let it = met x end label m in
    omega (arith, it.0, All-head (IsClear count end label) x xs all.0 (ltb-true x.label count h) it.1)
refuted_step count end label x xs true h false m true l e next same all = next e (all.1.0 (ltb-true x.label count h), all.1.1)
refuted_step count end label x xs true h false m false l e next same all =
    same e (All-tail (IsClear count end label) x xs all.0, all.1.1)

refuted : (count end label : ℕ) (xs : List Labelled) → are_apart count end label xs ≡ false → Told count end label xs → ⊥
refuted count end label [] e all = absurd cc
refuted count end label (x ∷ xs) e all =
    refuted_step count end label x xs (nat_lt x.label count) refl (meets x end label) refl (nat_lt end (x.range.high + 1)) refl e
    (refuted count (x.range.high + 1) x.label xs) (refuted count end label xs) all

-- a range that ends before another one begins shares no number with it
ended : (r s : NumberRange) → r.high + 1 ≤ s.low → AreDisjoint r s
ended r s before number one other = absurd (omega (arith, before, one.high, other.low))

turned : (r s : NumberRange) → AreDisjoint r s → AreDisjoint s r
turned r s disjoint number one other = disjoint number other one

apart_first : (count : ℕ) (x y : Labelled) → (x.label < count → IsClear count (x.range.high + 1) x.label y) → AreApartBefore count x y
apart_first count x y passed low below differ = ended x.range y.range (passed low below (λ e. differ (sym e)))

apart_last : (count : ℕ) (x y : Labelled) → AreApartBefore count x y → AreApartBefore count y x
apart_last count x y apart below low differ = turned x.range y.range (apart low below (λ e. differ (sym e)))

apart : (count : ℕ) (xs : List Labelled) → IsPassed count xs → AreAllApartBefore count xs
apart count [] passed = All-nil (λ x. All (AreApartBefore count x) [])
apart count (x ∷ xs) passed =
    let later : All (AreApartBefore count x) xs = λ k d inside. apart_first count x (get_or xs k d) (λ low. passed.0 low k d inside) in
    let rest = apart count xs passed.1 in
    All-cons (λ y. All (AreApartBefore count y) (x ∷ xs)) x xs
    (All-cons (AreApartBefore count x) x xs (λ low below differ. absurd (differ refl)) later)
    (λ k d inside. All-cons (AreApartBefore count (get_or xs k d)) x xs
    (apart_last count x (get_or xs k d) (later k d inside)) (rest k d inside))

clear_if_apart : (count : ℕ) (x y : Labelled) → x.range.low ≤ y.range.low → IsOrdered y → AreApartBefore count x y → x.label < count
    → IsClear count (x.range.high + 1) x.label y
clear_if_apart count x y order ordered apart low below differ = by_case (cases_lt x.range.high y.range.low) where
  by_case : (x.range.high < y.range.low) ⊎ (y.range.low ≤ x.range.high) → x.range.high + 1 ≤ y.range.low
  by_case (inl before) = omega (arith, before)
  by_case (inr reached) =
      absurd (apart low below (λ e. differ (sym e)) y.range.low (record { low = order; high = reached }) (record { low = omega arith; high = ordered }))

passed : (count : ℕ) (xs : List Labelled) → AreInOrder xs → All IsOrdered xs → AreAllApartBefore count xs → IsPassed count xs
passed count [] order ordered all = tt
passed count (x ∷ xs) order ordered all =
    let later = All-tail IsOrdered x xs ordered in
    let first = All-tail (AreApartBefore count x) x xs (All-head (λ y. All (AreApartBefore count y) (x ∷ xs)) x xs all) in
    let others = All-tail (λ y. All (AreApartBefore count y) (x ∷ xs)) x xs all in (
      (λ low k d inside. clear_if_apart count x (get_or xs k d) (order.1 k d inside) (later k d inside) (first k d inside) low),
      passed count xs order.2 later (λ k d inside. All-tail (AreApartBefore count (get_or xs k d)) x xs (others k d inside)),
    )

-- labels before the count share no number if the sweep says so, and only then
pub sweep_true : (count : ℕ) (xs : List Labelled) → IsNonDecreasingBy (λ x. x.range.low) xs → All IsOrdered xs
    → are_apart count 0 0 xs ≡ true → AreAllApartBefore count xs
sweep_true count xs rising ordered e = apart count xs (told count 0 0 xs (in_order xs rising ordered) e).1

pub sweep_false : (count : ℕ) (xs : List Labelled) → IsNonDecreasingBy (λ x. x.range.low) xs → All IsOrdered xs
    → are_apart count 0 0 xs ≡ false → AreAllApartBefore count xs → ⊥
sweep_false count xs rising ordered e all =
    refuted count 0 0 xs e ((λ k d inside low other. omega arith), passed count xs (in_order xs rising ordered) ordered all)

-- the order of the ranges is of no account
pub permuted : (count : ℕ) (xs ys : List Labelled) → IsPermutation xs ys → AreAllApartBefore count xs → AreAllApartBefore count ys
permuted count xs ys same all =
    All-permutation (λ x. All (AreApartBefore count x) ys) xs ys same
    (λ k d inside. All-permutation (AreApartBefore count (get_or xs k d)) xs ys same (all k d inside))

-- no label comes before the first
pub none_before : (xs : List Labelled) → AreAllApartBefore 0 xs
none_before xs = λ k d inside i e within low. absurd (omega (arith, low))
