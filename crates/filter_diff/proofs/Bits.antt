-- One more bit.
use Rattle.std.proofs.Common.{◌≡◌, ℕ, suc, ◌+◌, ◌-◌, ◌*◌, ◌%◌, ◌^◌, ◌<◌, ◌≤◌, Bool, true, false}
use Rattle.std.proofs.Common.{Option, Some, None, List, [], ◌∷◌, ◌++◌, length, refl, sym, ◌∙◌}
use Rattle.std.proofs.Common.{ap, arith, length-append}
use Rattle.std.specs.Option.{SomeIff}
use Rattle.std.specs.Prelude.{IfSome}
use Rattle.std.proofs.Math.Nat.{pow-suc}
use Rattle.std.proofs.Math.Pow.{pow_mono}
use Rattle.prefix_patterns.specs.Bits.{address_of, number, prefix_bits}
use Rattle.prefix_patterns.specs.BitLists.{address_below, prefix_bits-address_of}

-- the value of a last bit
abbrev unit : Bool → ℕ
unit true = 1
unit false = 0

-- the number of digits and one more
number_more : (p : List Bool) (b : Bool) → number (p ++ (b ∷ [])) ≡ 2 * number p + unit b
unfolding number
number_more [] true = refl
number_more [] false = refl
number_more (true ∷ p) b =
    let long : length (p ++ (b ∷ [])) ≡ suc (length p) = length-append p (b ∷ []) ∙ omega arith in
    rw (long, pow-suc 2 (length p), number_more p b) (omega arith)
number_more (false ∷ p) b = rw (number_more p b) (omega arith)

long_more : (p : List Bool) (b : Bool) → length (p ++ (b ∷ [])) ≡ length p + 1
long_more p b = length-append p (b ∷ [])

scaled : (n u m w : ℕ) → m ≡ w * 2 → (2 * n + u) * w ≡ n * m + u * w
scaled n u m w e = rw e (grind arith)

-- the first address that begins with the bits and one more
address_more : (p : List Bool) (b : Bool) → length p < 32 →
    address_of (p ++ (b ∷ [])) ≡ address_of p + unit b * 2 ^ (31 - length p)
address_more p b h =
    let rest : 32 - (length p + 1) ≡ 31 - length p = omega arith in
    let more : 32 - length p ≡ suc (31 - length p) = omega arith in
    rw (long_more p b, number_more p b, rest, more) (scaled (number p) (unit b) _ _ (pow-suc 2 (31 - length p)))

-- a 1 more
pub bits_one : (p : List Bool) (first count : ℕ) → first ≡ address_of p → count ≡ length p → count < 32 →
    prefix_bits (first + 1 * 2 ^ (31 - count) % 4294967296) (count + 1) ≡ p ++ (true ∷ [])
bits_one p first count is long h =
    let few : length p < 32 = omega arith in
    let small : 2 ^ (31 - length p) ≤ 2 ^ 31 = pow_mono {j = 31} (omega arith) in
    let kept_all : 1 * 2 ^ (31 - length p) % 4294967296 ≡ 1 * 2 ^ (31 - length p) = omega arith in
    rw (is, long, kept_all, ← address_more p true few, ← long_more p true)
    (prefix_bits-address_of (p ++ (true ∷ [])) (omega (arith, long_more p true)))

-- a 0 more
pub bits_zero : (p : List Bool) (first count : ℕ) → first ≡ address_of p → count ≡ length p → count < 32 →
    prefix_bits first (count + 1) ≡ p ++ (false ∷ [])
bits_zero p first count is long h =
    let few : length p < 32 = omega arith in
    let same : address_of p ≡ address_of (p ++ (false ∷ [])) = sym (address_more p false few ∙ omega arith) in
    rw (is, long, same, ← long_more p false)
    (prefix_bits-address_of (p ++ (false ∷ [])) (omega (arith, long_more p false)))

-- and it fits
pub fits_one : (p : List Bool) (first count : ℕ) → first ≡ address_of p → count ≡ length p → count < 32 →
    first + 1 * 2 ^ (31 - count) % 4294967296 < 2 ^ 32
fits_one p first count is long h =
    let few : length p < 32 = omega arith in
    let small : 2 ^ (31 - length p) ≤ 2 ^ 31 = pow_mono {j = 31} (omega arith) in
    let kept_all : 1 * 2 ^ (31 - length p) % 4294967296 ≡ 1 * 2 ^ (31 - length p) = omega arith in
    rw (is, long, kept_all, ← address_more p true few)
    (address_below (p ++ (true ∷ [])) (omega (arith, long_more p true)))

told_prefix : (P : Type 0) (o : Option (List Bool)) (v w : List Bool) → SomeIff o P v → v ≡ w → IfSome o (λ x. x ≡ w)
told_prefix P None v w h e = tt
told_prefix P (Some x) v w h e = h.1 ∙ e

pub longer_one : (P : Type 0) (o : Option (List Bool)) (p : List Bool) (first count : ℕ) (bit : Bool) →
    SomeIff o P (prefix_bits (first + 1 * 2 ^ (31 - count) % 4294967296) (count + 1)) → first ≡ address_of p → count ≡ length p → count < 32 →
    bit ≡ true → IfSome o (λ x. x ≡ p ++ (bit ∷ []))
longer_one P o p first count bit h is long few one =
    told_prefix P o _ _ h (bits_one p first count is long few ∙ ap (λ (b : Bool). p ++ (b ∷ [])) (sym one))

pub longer_zero : (P : Type 0) (o : Option (List Bool)) (p : List Bool) (first count : ℕ) (bit : Bool) →
    SomeIff o P (prefix_bits first (count + 1)) → first ≡ address_of p → count ≡ length p → count < 32 →
    bit ≡ false → IfSome o (λ x. x ≡ p ++ (bit ∷ []))
longer_zero P o p first count bit h is long few zero =
    told_prefix P o _ _ h (bits_zero p first count is long few ∙ ap (λ (b : Bool). p ++ (b ∷ [])) (sym zero))
