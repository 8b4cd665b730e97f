-- One bit of a list of bits.
use Rattle.std.proofs.Common.{◌≡◌, ℕ, zero, suc, ◌+◌, ◌-◌, ◌*◌, ◌/◌, ◌%◌, ◌^◌, ◌<◌, ◌≤◌, ◌==◌, Some, List, [], ◌∷◌, take}
use Rattle.std.proofs.Common.{refl, sym, ap, ◌∙◌, arith, length, slice_get}
use Rattle.prefix_patterns.specs.Bits.{bits, number, address_bits, prefix_bits, address_length}
use Rattle.prefix_patterns.specs.BitLists.{length-prefix_bits, number-bits, take-bits}
use Rattle.prefix_patterns.specs.Trees.{index_of}
use Rattle.std.proofs.Math.Nat.{add-mul-div_right}
use Rattle.std.proofs.lemmas.Nat.{pow_pos, pow-add}
use Rattle.std.proofs.Math.Pow.{shr_mod}
use Rattle.std.proofs.lemmas.List.{length-take-le, take-take}

slice_get-take : {A : Type 0} (n : ℕ) (xs : List A) (i : ℕ) → i < n → slice_get (take n xs) i ≡ slice_get xs i
slice_get-take zero xs i h = absurd (omega arith)
slice_get-take (suc n) [] i h = refl
slice_get-take (suc n) (x ∷ xs) zero h = refl
slice_get-take (suc n) (x ∷ xs) (suc i) h = slice_get-take n xs i (omega arith)

slice_get-bits : (count n i : ℕ) → i < count → slice_get (bits count n) i ≡ Some (n / 2 ^ (count - 1 - i) % 2 == 1)
unfolding bits
slice_get-bits zero n i h = absurd (omega arith)
slice_get-bits (suc count) n zero h = let e : suc count - 1 - 0 ≡ count = omega arith in rw e refl
slice_get-bits (suc count) n (suc i) h =
    let e : suc count - 1 - suc i ≡ count - 1 - i = omega arith in
    rw e (slice_get-bits count n i (omega arith))

-- a bit of a prefix
pub bit_of_prefix : (address len depth : ℕ) → len ≤ address_length → depth < len →
    slice_get (prefix_bits address len) depth ≡ Some (address / 2 ^ (31 - depth) % 2 == 1)
bit_of_prefix address len depth limit within =
    slice_get-take len (address_bits address) depth within ∙ slice_get-bits 32 address depth (omega arith)

-- the first bits of a prefix, as a number
pub number-take-prefix_bits : (address len count : ℕ) → address < 2 ^ 32 → len ≤ 32 → count ≤ len →
    number (take count (prefix_bits address len)) ≡ address / 2 ^ (32 - count)
number-take-prefix_bits address len count fits limit within =
    let split : count + (32 - count) ≡ 32 = omega arith in
    ap number (take-take count len (address_bits address) within ∙ take-bits count 32 (32 - count) address (omega arith))
    ∙ number-bits count (address / 2 ^ (32 - count))
    ∙ shr_mod count (32 - count) (rw split fits)

-- the index of the first bits of a prefix
pub index-take-prefix_bits : (address len count : ℕ) → address < 2 ^ 32 → len ≤ 32 → count ≤ len →
    index_of (take count (prefix_bits address len)) ≡ (2 ^ 32 + address) / 2 ^ (32 - count)
index-take-prefix_bits address len count fits limit within =
    let split : count + (32 - count) ≡ 32 = omega arith in
    let power : 2 ^ 32 ≡ 2 ^ count * 2 ^ (32 - count) = ap (λ n. 2 ^ n) (sym split) ∙ pow-add 2 count (32 - count) in
    let turned : 2 ^ 32 + address ≡ address + 2 ^ count * 2 ^ (32 - count) = omega (arith, power) in
    let whole : (2 ^ 32 + address) / 2 ^ (32 - count) ≡ address / 2 ^ (32 - count) + 2 ^ count =
    ap (λ n. n / 2 ^ (32 - count)) turned ∙ add-mul-div_right address (2 ^ count) (pow_pos (32 - count)) in
    let enough : count ≤ length (prefix_bits address len) = omega (arith, length-prefix_bits address len limit) in
    let lens = length-take-le count (prefix_bits address len) enough in
    let value = number-take-prefix_bits address len count fits limit within in
    let sum : index_of (take count (prefix_bits address len)) ≡ address / 2 ^ (32 - count) + 2 ^ count =
    rw lens (omega (arith, value)) in
    sum ∙ sym whole
