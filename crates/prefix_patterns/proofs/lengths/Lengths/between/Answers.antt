use Rattle.std.proofs.Common.{◌≡◌, ℕ, ◌+◌, ◌-◌, ◌/◌, ◌%◌, ◌^◌, ◌<◌, ◌≤◌, ◌==◌, ◌&&◌, nat_le, inl, inr, arith}
use Rattle.std.proofs.lemmas.Bool.{cases_lt}
use Rattle.std.proofs.lemmas.Bool.Decides.{nat_tests}
use Rattle.std.proofs.lemmas.Nat.{one_shl}
use Rattle.std.proofs.Math.Nat.{pow-le-pow_right}
use Rattle.std.proofs.lemmas.Nat.Bits.{bit_at_mask_inside, bit_at_mask_below, bit_at_mask_above}
use Rattle.prefix_patterns.proofs.lengths.Lengths.between.Goals as goal

powers_in_order : (low high a b : ℕ) → low ≤ high + 1 → a ≡ 2 ^ low → b ≡ 2 ^ (high + 1) → a ≤ b
powers_in_order low high a b order is_a is_b =
    let two : 0 < 2 = omega arith in
    rw (is_a, is_b) (pow-le-pow_right two order)

pub overflow_sub-result : goal.overflow_sub-result
overflow_sub-result c =
    powers_in_order c.args.low c.args.high _ _ (omega arith) (one_shl c.args.low 64 (omega arith))
    (one_shl (c.args.high + 1) 64 (omega arith))

-- a bit that is clear, below the lengths or above them, and a bit that is set
clear_below : (bit low high len : ℕ) → bit ≡ 0 → len < low → (bit == 1) ≡ (nat_le low len && nat_le len high)
clear_below bit low high len e below = grind (arith, nat_tests)

clear_above : (bit low high len : ℕ) → bit ≡ 0 → high + 1 ≤ len → (bit == 1) ≡ (nat_le low len && nat_le len high)
clear_above bit low high len e above = grind (arith, nat_tests)

set_inside : (bit low high len : ℕ) → bit ≡ 1 → low ≤ len → len < high + 1 → (bit == 1) ≡ (nat_le low len && nat_le len high)
set_inside bit low high len e above below = grind (arith, nat_tests)

-- the mask has the bits from the least length to the greatest
mask_has : (low high len mask : ℕ) → mask ≡ 2 ^ (high + 1) - 2 ^ low → (mask / 2 ^ len % 2 == 1) ≡ (nat_le low len && nat_le len high)
mask_has low high len mask e =
    elim (cases_lt len low) [
      | inl below ↦ clear_below _ low high len (rw e (bit_at_mask_below low (high + 1) len below)) below
      | inr from_low ↦ elim (cases_lt len (high + 1)) [
        | inl to_high ↦ set_inside _ low high len (rw e (bit_at_mask_inside low (high + 1) len from_low to_high)) from_low to_high
        | inr above ↦ clear_above _ low high len (rw e (bit_at_mask_above low (high + 1) len above)) above
      ]
    ]

both_powers : (low high a b : ℕ) → a ≡ 2 ^ low → b ≡ 2 ^ (high + 1) → b - a ≡ 2 ^ (high + 1) - 2 ^ low
both_powers low high a b is_a is_b = rw (is_a, is_b)

pub returns : goal.returns
returns c = λ len.
    mask_has c.args.low c.args.high len _ (both_powers c.args.low c.args.high _ _
    (one_shl c.args.low 64 (omega arith)) (one_shl (c.args.high + 1) 64 (omega arith)))
