-- Ints and ranges: what arithmetic on numbers in ranges gives lies in the range that is known of it.
use Rattle.std.proofs.Common.{◌≡◌, ℕ, ◌+◌, ◌-◌, ◌*◌, ◌/◌, ◌%◌, ◌^◌, ◌<◌, ◌≤◌, max, Bool, true, false, ◌||◌, ◌&&◌, refl, subst}
use Rattle.std.proofs.Common.{mul_comm, arith}
use Rattle.std.specs.Prelude.{nat_lt, nat_le}
use Rattle.std.proofs.Math.Nat.{div-mul-le_self, div-le_self}
use Rattle.std.proofs.lemmas.Bool.{cond_both}
use Rattle.std.proofs.lemmas.Nat.{mul-le, le-div}
use Rattle.std.proofs.lemmas.Bool.Decides.{nat_tests}
use Rattle.filter_verifier.specs.PairwiseJoin.{join_two_ranges}
use Rattle.filter_verifier.specs.Ranges.{RangeView, any_number, range_in, range_of_difference, range_of_greater}
use Rattle.filter_verifier.specs.Ranges.{range_of_length, range_of_metric, range_of_number, range_of_product}
use Rattle.filter_verifier.specs.Ranges.{range_of_quotient, range_of_sum}
use Rattle.filter_code.specs.Limits.{largest_size}
use Rattle.prefix_patterns.specs.Bits.{address_length}

-- an int lies in a range, where so much was received
pub record InRange (received : ℕ) (span : RangeView) (x : ℕ) : Type 0 where
  pub above : span.low ≤ x
  pub below : x ≤ span.high
  pub narrow : x < 2 ^ 32
  pub marked : span.at_least_received ≡ true → received ≤ x

-- the mark by a range that begins at the size
mark_or_size : (received size low x : ℕ) (at_least_received : Bool) → received ≤ size → low ≤ x → (at_least_received ≡ true → received ≤ x) →
    (at_least_received || nat_le size low) ≡ true → received ≤ x
mark_or_size received size low x true limit above marked e = marked refl
mark_or_size received size low x false limit above marked e = grind (arith, nat_tests)

pub spanning_fits : (received size low high : ℕ) (at_least_received : Bool) (x : ℕ) → received ≤ size → low ≤ x → x ≤ high → x < 2 ^ 32 →
    (at_least_received ≡ true → received ≤ x) → InRange received (range_in size low high at_least_received) x
spanning_fits received size low high at_least_received x limit above below narrow marked = record {
  above = above;
  below = below;
  narrow = narrow;
  marked = mark_or_size received size low x at_least_received limit above marked;
}

-- nothing is wrong where there is no mark
no_mark : (received x : ℕ) → false ≡ true → received ≤ x
no_mark received x e = cc

pub wrapped_fits : (received size x : ℕ) → received ≤ size → InRange received (any_number size) (x % 2 ^ 32)
wrapped_fits received size x limit =
    let narrow : x % 2 ^ 32 < 2 ^ 32 = omega arith in
    spanning_fits received size 0 4294967295 false (x % 2 ^ 32) limit (omega arith) (omega arith) narrow (no_mark received (x % 2 ^ 32))

-- a number below 2^32 does not wrap
unwrapped : (received size low high : ℕ) (at_least_received : Bool) (x : ℕ) → received ≤ size → low ≤ x → x ≤ high → high < 2 ^ 32 →
    (at_least_received ≡ true → received ≤ x) → InRange received (range_in size low high at_least_received) (x % 2 ^ 32)
unwrapped received size low high at_least_received x limit above below narrow marked =
    let same : x ≡ x % 2 ^ 32 = omega arith in
    subst (λ y. InRange received (range_in size low high at_least_received) y) same
    (spanning_fits received size low high at_least_received x limit above below (omega arith) marked)

pub number_fits : (received size k : ℕ) → received ≤ size → k < 2 ^ 32 → InRange received (range_of_number size k) k
number_fits received size k limit narrow =
    spanning_fits received size k k false k limit (omega arith) (omega arith) narrow (no_mark received k)

pub metric_fits : (received size metric : ℕ) → size ≤ largest_size → received ≤ metric → metric ≤ size →
    InRange received (range_of_metric size) metric
metric_fits received size metric small least most =
    spanning_fits received size 0 size true metric (omega arith) (omega arith) most (omega arith) (λ _. least)

pub length_fits : (received size n : ℕ) → received ≤ size → n ≤ address_length → InRange received (range_of_length size) n
length_fits received size n limit most =
    spanning_fits received size 0 32 false n limit (omega arith) most (omega arith) (no_mark received n)

-- one of two marks
either_marked : (received x : ℕ) (a b : Bool) → (a ≡ true → received ≤ x) → (b ≡ true → received ≤ x) → (a || b) ≡ true → received ≤ x
either_marked received x true b first second e = first refl
either_marked received x false b first second e = second e

-- both of two tests
ands_true : (a b : Bool) → (a && b) ≡ true → (a ≡ true) × (b ≡ true)
ands_true true b e = (refl, e)
ands_true false b e = cc

module _ (received size : ℕ) (limit : received ≤ size) where
  pub sum_fits : (a b : ℕ) (s t : RangeView) → InRange received s a → InRange received t b →
      InRange received (range_of_sum size s t) ((a + b) % 2 ^ 32)
  sum_fits a b s t p q =
      cond_both (nat_lt (s.high + t.high) (2 ^ 32)) _ _ (λ v. InRange received v ((a + b) % 2 ^ 32))
      (λ e. unwrapped received size (s.low + t.low) (s.high + t.high) (s.at_least_received || t.at_least_received) (a + b) limit
      (omega (arith, p.above, q.above)) (omega (arith, p.below, q.below)) (grind (arith, nat_tests))
      (either_marked received (a + b) s.at_least_received t.at_least_received (λ m. omega (arith, p.marked m)) (λ m. omega (arith, q.marked m))))
      (λ e. wrapped_fits received size (a + b) limit)

  pub difference_fits : (a b : ℕ) (s t : RangeView) → InRange received s a → InRange received t b →
      InRange received (range_of_difference size s t) ((a + (2 ^ 32 - b)) % 2 ^ 32)
  difference_fits a b s t p q =
      cond_both (nat_le t.high s.low) _ _ (λ v. InRange received v ((a + (2 ^ 32 - b)) % 2 ^ 32))
      (λ e.
      let apart : t.high ≤ s.low = grind (arith, nat_tests) in
      let same : a - b ≡ (a + (2 ^ 32 - b)) % 2 ^ 32 = omega (arith, p.above, p.narrow, q.below) in
      subst (λ x. InRange received (range_in size (s.low - t.high) (s.high - t.low) false) x) same
      (spanning_fits received size (s.low - t.high) (s.high - t.low) false (a - b) limit
      (omega (arith, p.above, q.below)) (omega (arith, p.below, q.above)) (omega (arith, p.narrow)) (no_mark received (a - b))))
      (λ e. wrapped_fits received size (a + (2 ^ 32 - b)) limit)

  -- a product is at least a factor where the other is not 0
  product_marked : (a b : ℕ) (s t : RangeView) → InRange received s a → InRange received t b → (s.at_least_received && nat_le 1 t.low) ≡ true →
      received ≤ a * b
  product_marked a b s t p q e =
      let both = ands_true s.at_least_received (nat_le 1 t.low) e in
      let one : nat_le 1 t.low ≡ true = both.1 in
      let least : 1 ≤ t.low = grind (arith, nat_tests) in
      let enough : a * 1 ≤ a * b = mul-le a 1 a b (omega arith) (omega (arith, q.above)) in
      omega (arith, p.marked both.0)

  pub product_fits : (a b : ℕ) (s t : RangeView) → InRange received s a → InRange received t b →
      InRange received (range_of_product size s t) ((a * b) % 2 ^ 32)
  product_fits a b s t p q =
      cond_both (nat_lt (s.high * t.high) (2 ^ 32)) _ _ (λ v. InRange received v ((a * b) % 2 ^ 32))
      (λ e. unwrapped received size (s.low * t.low) (s.high * t.high) ((s.at_least_received && nat_le 1 t.low) || (t.at_least_received && nat_le 1 s.low))
      (a * b) limit
      (mul-le s.low t.low a b p.above q.above) (mul-le a b s.high t.high p.below q.below) (grind (arith, nat_tests))
      (either_marked received (a * b) (s.at_least_received && nat_le 1 t.low) (t.at_least_received && nat_le 1 s.low)
      (λ m. product_marked a b s t p q m)
      (λ m. subst (λ x. received ≤ x) (mul_comm b a) (product_marked b a t s q p m))))
      (λ e. wrapped_fits received size (a * b) limit)

  pub quotient_fits : (a b : ℕ) (s t : RangeView) → 0 < t.low → InRange received s a → InRange received t b →
      InRange received (range_of_quotient size s t) (a / b)
  quotient_fits a b s t positive p q =
      let divides : 0 < b = omega (arith, q.above) in
      let under : s.low / t.high * b ≤ s.low / t.high * t.high = mul-le (s.low / t.high) b (s.low / t.high) t.high (omega arith) q.below in
      let over : a / b * t.low ≤ a / b * b = mul-le (a / b) t.low (a / b) b (omega arith) q.above in
      spanning_fits received size (s.low / t.high) (s.high / t.low) false (a / b) limit
      (le-div (s.low / t.high) a b divides (omega (arith, div-mul-le_self s.low t.high, p.above)))
      (le-div (a / b) s.high t.low positive (omega (arith, div-mul-le_self a b, p.below)))
      (omega (arith, div-le_self a b, p.narrow)) (no_mark received (a / b))

  pub greater_fits : (a b : ℕ) (s t : RangeView) → InRange received s a → InRange received t b →
      InRange received (range_of_greater size s t) (max a b)
  greater_fits a b s t p q =
      spanning_fits received size (max s.low t.low) (max s.high t.high) (s.at_least_received || t.at_least_received) (max a b) limit
      (omega (arith, p.above, q.above)) (omega (arith, p.below, q.below)) (omega (arith, p.narrow, q.narrow))
      (either_marked received (max a b) s.at_least_received t.at_least_received (λ m. omega (arith, p.marked m)) (λ m. omega (arith, q.marked m)))

-- what lies in a range lies in one that holds it
pub both_left : (received x : ℕ) (s t : RangeView) → InRange received s x → InRange received (join_two_ranges s t) x
both_left received x s t p = record {
  above = omega (arith, p.above);
  below = omega (arith, p.below);
  narrow = p.narrow;
  marked = λ e. p.marked (ands_true s.at_least_received t.at_least_received e).0;
}

pub both_right : (received x : ℕ) (s t : RangeView) → InRange received t x → InRange received (join_two_ranges s t) x
both_right received x s t p = record {
  above = omega (arith, p.above);
  below = omega (arith, p.below);
  narrow = p.narrow;
  marked = λ e. p.marked (ands_true s.at_least_received t.at_least_received e).1;
}
