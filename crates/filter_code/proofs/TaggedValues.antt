-- Values as numbers of 64 bits: what their halves tell.
use Rattle.std.proofs.Common.{◌≡◌, ℕ, ◌+◌, ◌-◌, ◌*◌, ◌/◌, ◌%◌, ◌^◌, ◌==◌, ◌<◌, ◌≤◌, Bool, true, false, List, length, refl, sym, ◌∙◌}
use Rattle.std.proofs.Common.{ap, subst, arith}
use Rattle.std.specs.Bool.{beq}
use Rattle.std.specs.Cmp.{booleans_Decides}
use Rattle.std.specs.Cmp.Lexicographic.{pointwise, pointwise_decides}
use Rattle.std.proofs.lemmas.Bool.Decides.{Decides-eqb, Decides-like, nat_tests, same_from_decides}
use Rattle.prefix_patterns.specs.Bits.{address_of, prefix_bits}
use Rattle.prefix_patterns.specs.BitLists.{address_below, prefix_bits-address_of}
use Rattle.filter_code.specs.declared.value.Value.{Value}
use Rattle.filter_code.specs.declared.value.Value.TheVariants as value
use Rattle.filter_code.specs.Table.{are_alike}
use Rattle.filter_code.specs.Values.{IsWithinType, is_same, kind_of}
use Rattle.filter_code.specs.Tagged.{IsTagged, tagged, value_tagged}

-- the number that a value has
pub record IsNumberOf (w : ℕ) (v : Value) : Type 0 where
  pub number_is : tagged v ≡ w
  pub within : IsWithinType v

pub number_of_value : (w : ℕ) (v : Value) → value_tagged w ≡ v → IsTagged w → IsNumberOf w v
number_of_value w v is h = record {
  number_is = subst (λ (x : Value). tagged x ≡ w) is h.back;
  within = subst IsWithinType is h.within;
}

-- the upper half of a value's number
abbrev upper : Value → ℕ
upper (value.Int n) = 0
upper (value.Bool b) = 1
upper (value.Addr a) = 2
upper (value.Net bits) = 4 + length bits

flag_upper : (b : Bool) (w : ℕ) → tagged (value.Bool b) ≡ w → w / 2 ^ 32 ≡ 1
flag_upper true w e = omega arith
flag_upper false w e = omega arith

halves : (n a w : ℕ) → (4 + n) * 2 ^ 32 + a ≡ w → a < 2 ^ 32 → (w / 2 ^ 32 ≡ 4 + n) × (w % 2 ^ 32 ≡ a)
halves n a w e below = ((omega arith), (omega arith))

upper_is : (w : ℕ) (v : Value) → IsNumberOf w v → w / 2 ^ 32 ≡ upper v
upper_is w (value.Int n) h = omega (arith, h.number_is, h.within)
upper_is w (value.Bool b) h = flag_upper b w h.number_is
upper_is w (value.Addr a) h = omega (arith, h.number_is, h.within)
upper_is w (value.Net bits) h = (halves (length bits) (address_of bits) w h.number_is (address_below bits h.within)).0

-- a number whose upper half is that of a prefix is one
pub record IsPrefix (w : ℕ) (v : Value) : Type 0 where
  pub bits : List Bool
  pub is : v ≡ value.Net bits
  pub upper_half : w / 2 ^ 32 ≡ 4 + length bits
  pub limit : length bits ≤ 32

pub prefix_there : (w : ℕ) (v : Value) → IsNumberOf w v → 4 ≤ w / 2 ^ 32 → IsPrefix w v
prefix_there w (value.Net bits) h up = record { bits = bits; is = refl; upper_half = upper_is w (value.Net bits) h; limit = h.within }
prefix_there w v h up = absurd (omega (arith, upper_is w v h))

-- a prefix comes back out of its number
net_back : (bits : List Bool) (w : ℕ) → IsNumberOf w (value.Net bits) → prefix_bits (w % 2 ^ 32) (w / 2 ^ 32 - 4) ≡ bits
net_back bits w h =
    let parts = halves (length bits) (address_of bits) w h.number_is (address_below bits h.within) in
    let n : w / 2 ^ 32 - 4 ≡ length bits = omega (arith, parts.0) in
    rw (parts.1, n) (prefix_bits-address_of bits h.within)

-- numbers of one kind are equal just where their values are
same_nets : (a b : List Bool) (v w : ℕ) → IsNumberOf v (value.Net a) → IsNumberOf w (value.Net b) → (v == w) ≡ pointwise beq a b
same_nets a b v w h k =
    same_from_decides _ _
    (Decides-like _ (λ e. sym (net_back a v h) ∙ (ap (λ n. prefix_bits (n % 2 ^ 32) (n / 2 ^ 32 - 4)) e ∙ net_back b w k))
    (λ e. sym h.number_is ∙ (ap (λ bits. tagged (value.Net bits)) e ∙ k.number_is))
    (Decides-eqb v w))
    (pointwise_decides booleans_Decides a b)

same_flags : (p q : Bool) → (tagged (value.Bool p) == tagged (value.Bool q)) ≡ beq p q
same_flags true true = refl
same_flags true false = refl
same_flags false true = refl
same_flags false false = refl

same_ips : (a b : ℕ) → (2 * 2 ^ 32 + a == 2 * 2 ^ 32 + b) ≡ (a == b)
same_ips a b = grind (arith, nat_tests)

-- two values of one kind, and whether they are equal
pub record AreSame (x y : Value) (same : Bool) : Type 0 where
  pub alike : are_alike (kind_of x) (kind_of y) ≡ true
  pub same_is : same ≡ is_same x y

-- where the upper halves are equal, so are the kinds
pub one_kind : (v w : ℕ) (x y : Value) → IsNumberOf v x → IsNumberOf w y → v / 2 ^ 32 ≡ w / 2 ^ 32 → AreSame x y (v == w)
one_kind v w (value.Int a) (value.Int b) h k e = record { alike = refl; same_is = rw (← h.number_is, ← k.number_is) refl }
one_kind v w (value.Bool a) (value.Bool b) h k e =
    record { alike = refl; same_is = rw (← h.number_is, ← k.number_is) (same_flags a b) }
one_kind v w (value.Addr a) (value.Addr b) h k e =
    record { alike = refl; same_is = rw (← h.number_is, ← k.number_is) (same_ips a.0 b.0) }
one_kind v w (value.Net a) (value.Net b) h k e = record { alike = refl; same_is = same_nets a b v w h k }
one_kind v w x y h k e = absurd (omega (arith, upper_is v x h, upper_is w y k))

-- where both are prefixes and the upper halves differ, they differ
apart : (v w : ℕ) (same : Bool) → (v == w) ≡ same → (v / 2 ^ 32 ≡ w / 2 ^ 32 → ⊥) → false ≡ same
apart v w false e differ = refl
apart v w true e differ =
    let same : v ≡ w = grind (arith, nat_tests) in
    absurd (differ (ap (λ n. n / 2 ^ 32) same))

pub two_lengths : (v w : ℕ) (x y : Value) → IsNumberOf v x → IsNumberOf w y → 4 ≤ v / 2 ^ 32 → 4 ≤ w / 2 ^ 32 →
    (v / 2 ^ 32 ≡ w / 2 ^ 32 → ⊥) → AreSame x y false
two_lengths v w (value.Net a) (value.Net b) h k up on differ =
    record { alike = refl; same_is = apart v w (v == w) refl differ ∙ same_nets a b v w h k }
two_lengths v w x y h k up on differ = absurd (omega (arith, upper_is v x h, upper_is w y k))
