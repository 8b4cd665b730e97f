-- Rising ranges, searched part by part: what is left of them, and what that tells.
use Rattle.std.proofs.Common.{◌≡◌, ℕ, zero, suc, ◌+◌, ◌*◌, ◌-◌, ◌<◌, ◌≤◌, ◌⊎◌, inl, inr, Bool, true}
use Rattle.std.proofs.Common.{false, List, length, get_or, take, drop, refl, sym, ap, ◌∙◌, arith}
use Rattle.std.proofs.lemmas.Bool.{cases_lt}
use Rattle.std.proofs.lemmas.Bool.Decides.{nat_tests}
use Rattle.std.proofs.lemmas.List.{get_or_default, get_or-drop, get_or-take, length-drop, length-take}
use Rattle.std.proofs.lemmas.List.Folds.{Any-from_list_any, list_any_at}
use Rattle.int_sets.specs.Holding.{NumberRange, holds, holds_any}
use Rattle.int_sets.specs.Merged.{AreRising}

both_ways : (a b : Bool) → (a ≡ true → b ≡ true) → (b ≡ true → a ≡ true) → a ≡ b
both_ways true b to from = sym (to refl)
both_ways false true to from = from refl
both_ways false false to from = refl

-- The ranges that are left of rising ranges as one that holds a number is looked for: those from the one at `base` on, `size` of
-- them. If there are any before them, the first one left begins at the number or before it; those after them begin past it.
pub record IsLeft (number base size : ℕ) (ranges : List NumberRange) : Type 0 where
  pub within : base + size ≤ length ranges
  pub some : 0 < base → 0 < size
  pub begun : 0 < base → (d : NumberRange) → (get_or ranges base d).low ≤ number
  pub later : (at : ℕ) (d : NumberRange) → base + size ≤ at → at < length ranges → number < (get_or ranges at d).low

-- of three numbers in order, as many as are not past a number come first
pub part_begun : (number s x y z : ℕ) (low : ℕ → ℕ) → s ≡ x + y + z → low 1 ≤ low 2 → low 2 ≤ low 3 → x ≤ 1 → y ≤ 1 → z ≤ 1 →
    (0 < x → low 1 ≤ number) → (0 < y → low 2 ≤ number) → (0 < z → low 3 ≤ number) →
    (x < 1 → number < low 1) → (y < 1 → number < low 2) → 0 < s → low s ≤ number
part_begun number zero x y z low e l m a b c xs ys zs xn yn some = absurd (omega arith)
part_begun number (suc zero) x y z low e l m a b c xs ys zs xn yn some = grind arith
part_begun number (suc (suc zero)) x y z low e l m a b c xs ys zs xn yn some = grind arith
part_begun number (suc (suc (suc zero))) x y z low e l m a b c xs ys zs xn yn some = zs (omega arith)
part_begun number (suc (suc (suc (suc s)))) x y z low e l m a b c xs ys zs xn yn some = absurd (omega arith)

-- and the next one is past it
pub part_later : (number s x y z : ℕ) (low : ℕ → ℕ) → s ≡ x + y + z → low 1 ≤ low 2 → low 2 ≤ low 3 → x ≤ 1 → y ≤ 1 → z ≤ 1 →
    (0 < y → low 2 ≤ number) → (0 < z → low 3 ≤ number) →
    (x < 1 → number < low 1) → (y < 1 → number < low 2) → (z < 1 → number < low 3) → s < 3 → number < low (s + 1)
part_later number zero x y z low e l m a b c ys zs xn yn zn some = xn (omega arith)
part_later number (suc zero) x y z low e l m a b c ys zs xn yn zn some = grind arith
part_later number (suc (suc zero)) x y z low e l m a b c ys zs xn yn zn some = grind arith
part_later number (suc (suc (suc s))) x y z low e l m a b c ys zs xn yn zn some = absurd (omega arith)

-- the first number of a range that is `times` parts after the first one left
pub low_at : (ranges : List NumberRange) (base part times at : ℕ) (found d : NumberRange) → found ≡ get_or ranges at found →
    at < length ranges → at ≡ base + part * times → (get_or ranges (base + part * times) d).low ≡ found.low
low_at ranges base part times at found d is inside same =
    ap (λ r. r.low) (ap (λ k. get_or ranges k d) (sym same) ∙ get_or_default ranges at d found inside ∙ sym is)

add_none : (base part : ℕ) → base + part * 0 ≡ base
add_none base part = omega arith

-- what is left once a part is chosen: the next part begins past the number
pub still_left : (number base size part chosen : ℕ) (ranges : List NumberRange) → AreRising ranges → IsLeft number base size ranges →
    4 * part ≤ size → 3 < size → chosen ≤ 3 →
    (0 < chosen → (d : NumberRange) → (get_or ranges (base + part * chosen) d).low ≤ number) →
    (chosen < 3 → (d : NumberRange) → number < (get_or ranges (base + part * (chosen + 1)) d).low) →
    IsLeft number (base + part * chosen) (size - 3 * part) ranges
still_left number base size part zero ranges rising left parts many limit begun later = record {
  within = omega (arith, left.within);
  some = λ some. omega arith;
  begun = λ some d. rw (add_none base part) (left.begun (omega arith) d);
  later = λ at d past inside. omega (arith, later (omega arith) d, rising.low (base + part * 1) at d (omega arith) inside);
}
still_left number base size part (suc zero) ranges rising left parts many limit begun later = record {
  within = omega (arith, left.within);
  some = λ some. omega arith;
  begun = λ some d. begun (omega arith) d;
  later = λ at d past inside. omega (arith, later (omega arith) d, rising.low (base + part * 2) at d (omega arith) inside);
}
still_left number base size part (suc (suc zero)) ranges rising left parts many limit begun later = record {
  within = omega (arith, left.within);
  some = λ some. omega arith;
  begun = λ some d. begun (omega arith) d;
  later = λ at d past inside. omega (arith, later (omega arith) d, rising.low (base + part * 3) at d (omega arith) inside);
}
still_left number base size part (suc (suc (suc zero))) ranges rising left parts many limit begun later = record {
  within = omega (arith, left.within);
  some = λ some. omega arith;
  begun = λ some d. begun (omega arith) d;
  later = λ at d past inside. left.later at d (omega arith) inside;
}
still_left number base size part (suc (suc (suc (suc chosen)))) ranges rising left parts many limit begun later = absurd (omega arith)

held : (number : ℕ) (r : NumberRange) → r.low ≤ number → number ≤ r.high → holds number r ≡ true
held number r above below = grind (arith, nat_tests)

begins : (number : ℕ) (r : NumberRange) → holds number r ≡ true → r.low ≤ number
begins number r is = grind (arith, nat_tests)

ends : (number : ℕ) (r : NumberRange) → holds number r ≡ true → number ≤ r.high
ends number r is = grind (arith, nat_tests)

-- where a range holds the number, one of those left does
held_left : (number base size at : ℕ) (ranges : List NumberRange) (d : NumberRange) → AreRising ranges → IsLeft number base size ranges →
    at < length ranges → holds number (get_or ranges at d) ≡ true → (at < base) ⊎ (base ≤ at) →
    (k : ℕ) × (k < size) × (holds number (get_or ranges (base + k) d) ≡ true)
held_left number base size at ranges d rising left inside is (inl before) =
    let later = rising.high at base d (omega arith) (omega (arith, left.some, left.within)) in (
      0,
      left.some (omega arith),
      rw (add_none base 0)
          (held number _ (left.begun (omega arith) d) (omega (arith, later, ends number (get_or ranges at d) is))),
    )
held_left number base size at ranges d rising left inside is (inr after) =
    let early : at < base + size =
    elim (cases_lt at (base + size)) [
      | inl early ↦ early
      | inr past ↦ absurd (omega (arith, left.later at d past inside, begins number (get_or ranges at d) is))
    ] in
    let there : base + (at - base) ≡ at = omega arith in
    (at - base, omega arith, rw there is)

-- a range of those left
left_at : (base size k : ℕ) (ranges : List NumberRange) (d : NumberRange) → k < size →
    get_or (take size (drop base ranges)) k d ≡ get_or ranges (base + k) d
left_at base size k ranges d inside = get_or-take size (drop base ranges) k d inside ∙ get_or-drop base ranges k d

left_length : (base size : ℕ) (ranges : List NumberRange) → base + size ≤ length ranges → length (take size (drop base ranges)) ≡ size
left_length base size ranges within = omega (arith, length-take size (drop base ranges), length-drop base ranges)

-- those left tell whether one of all ranges holds the number
pub left_tells : (number base size : ℕ) (ranges : List NumberRange) → AreRising ranges → IsLeft number base size ranges →
    holds_any number (take size (drop base ranges)) ≡ holds_any number ranges
left_tells number base size ranges rising left =
    let count = left_length base size ranges left.within in
    both_ways _ _
    (λ e. let any = Any-from_list_any (holds number) (take size (drop base ranges)) e in
    let inside : any.0 < size = omega (arith, any.2, count) in
    list_any_at (holds number) ranges (base + any.0) any.1 (omega (arith, left.within))
    (ap (holds number) (sym (left_at base size any.0 ranges any.1 inside) ∙ any.3) ∙ any.4))
    (λ e. let any = Any-from_list_any (holds number) ranges e in
    let found = held_left number base size any.0 ranges any.1 rising left any.2 (ap (holds number) any.3 ∙ any.4) (cases_lt any.0 base) in
    list_any_at (holds number) (take size (drop base ranges)) found.0 any.1 (omega (arith, found.1, count))
    (ap (holds number) (left_at base size found.0 ranges any.1 found.1) ∙ found.2))
