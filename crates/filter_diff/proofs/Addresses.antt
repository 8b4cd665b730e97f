-- The first address of a prefix, and what masks make of it.
use Rattle.std.proofs.Common.{◌≡◌, ℕ, ◌+◌, ◌-◌, ◌*◌, ◌/◌, ◌%◌, ◌^◌, ◌<◌, ◌≤◌, Bool, List, ◌∷◌, length, take, refl, sym, ◌∙◌, ap, subst, arith}
use Rattle.std.proofs.lemmas.List.{length-take, take-take}
use Rattle.std.proofs.lemmas.Nat.{pow-add, pow_pos, shl-shr, shr_high}
use Rattle.std.proofs.Math.Pow.{pow_mono}
use Rattle.prefix_patterns.specs.Bits.{address_bits, address_of, number, prefix_bits}
use Rattle.prefix_patterns.specs.BitLists.{address_below, address_of-prefix_bits, prefix_bits-address_of, prefix_bits-cleared}
use Rattle.prefix_patterns.specs.Matching.{LiesWithin}
use Rattle.prefix_patterns.specs.declared.address.Ip.{Ip}
use Rattle.filter_code.specs.declared.instruction.Instr.TheVariants as instr
use Rattle.filter_code.specs.declared.value.Value.{Value}
use Rattle.filter_code.specs.declared.value.Value.TheVariants as value
use Rattle.filter_code.specs.CodeView.{CodeView}
use Rattle.filter_code.specs.RouteView.{RouteView}
use Rattle.filter_diff.specs.Judging.{last_address}
use Rattle.filter_diff.specs.Symbols.{Puts, kept_address}
use Rattle.filter_diff.proofs.Knowing.{first_bits}

pub addr_is : (ip : Ip) (address : ℕ) → ip.0 ≡ address → value.Addr ip ≡ value.Addr (record { 0 = address })
addr_is ip address e = ap (λ (n : ℕ). value.Addr (record { 0 = n })) e

-- a mask that keeps fewer bits
fewer_kept : (net : List Bool) (kept n : ℕ) → kept ≤ length net → length net ≤ 32 → n ≤ kept →
    address_of (prefix_bits (address_of (take kept net)) n) ≡ address_of (take n net)
fewer_kept net kept n h fits few =
    let long : length (take kept net) ≡ kept = length-take kept net ∙ omega arith in
    ap (λ (p : List Bool). address_of p) (first_bits (take kept net) n (omega arith) (omega arith) ∙ take-take n kept net few)

-- zeros past the bits stay zeros
cleared : (m a b : ℕ) → (m * 2 ^ (a + b)) / 2 ^ b * 2 ^ b ≡ m * 2 ^ (a + b)
cleared m a b =
    let e : m * 2 ^ (a + b) ≡ (m * 2 ^ a) * 2 ^ b = ap (λ (n : ℕ). m * n) (pow-add 2 a b) ∙ grind arith in
    rw e (ap (λ (n : ℕ). n * 2 ^ b) (shl-shr (m * 2 ^ a) b))

-- a mask that keeps more bits changes nothing
more_kept : (p : List Bool) (n : ℕ) → length p ≤ n → n ≤ 32 → address_of (prefix_bits (address_of p) n) ≡ address_of p
more_kept p n h limit =
    let split : 32 - length p ≡ (n - length p) + (32 - n) = omega arith in
    address_of-prefix_bits (address_of p) n (address_below p (omega arith)) limit
    ∙ (rw split (cleared (number p) (n - length p) (32 - n)))

-- MASK on the first address of the route's prefix
puts_mask : (program : CodeView) (route : RouteView) (kept n address : ℕ) →
    address_of (prefix_bits (address_of (take kept route.net)) n) ≡ address →
    Puts program (instr.Mask n) route (λ rest. kept_address kept route ∷ rest) (value.Addr (record { 0 = address }))
puts_mask program route kept n address e =
    subst (λ (x : ℕ). Puts program (instr.Mask n) route (λ rest. kept_address kept route ∷ rest) (value.Addr (record { 0 = x }))) e
    (λ pc metric rest locals. refl)

pub masks_less : (program : CodeView) (route : RouteView) (kept n : ℕ) (v : Value) → kept ≤ length route.net → length route.net ≤ 32 →
    n ≤ kept → v ≡ kept_address n route → Puts program (instr.Mask n) route (λ rest. kept_address kept route ∷ rest) v
masks_less program route kept n v h fits few e =
    subst (λ (x : Value). Puts program (instr.Mask n) route (λ rest. kept_address kept route ∷ rest) x) (sym e)
    (puts_mask program route kept n _ (fewer_kept route.net kept n h fits few))

pub masks_more : (program : CodeView) (route : RouteView) (kept n : ℕ) → kept ≤ length route.net → length route.net ≤ 32 →
    kept ≤ n → n ≤ 32 → Puts program (instr.Mask n) route (λ rest. kept_address kept route ∷ rest) (kept_address kept route)
masks_more program route kept n h fits more limit =
    let long : length (take kept route.net) ≡ kept = length-take kept route.net ∙ omega arith in
    puts_mask program route kept n _ (more_kept (take kept route.net) n (omega arith) limit)

quotients : (a m : ℕ) → 0 < m → (a / m * m ≤ a) × (a ≤ a / m * m + (m - 1))
quotients a m h = ((omega arith), (omega arith))

pub record AreBetween (low high address : ℕ) : Type 0 where
  pub least : low ≤ address
  pub most : address ≤ high

-- the last address of a prefix, as it is computed
pub last_computed : (q : List Bool) (first count : ℕ) → first ≡ address_of q → count ≡ length q → count ≤ 32 →
    first + (1 * 2 ^ (32 - count) % 18446744073709551616 - 1) ≡ last_address q
last_computed q first count first_is count_is short =
    let small : 2 ^ (32 - count) ≤ 2 ^ 32 = pow_mono {j = 32} (omega arith) in
    let kept_all : 1 * 2 ^ (32 - count) % 18446744073709551616 ≡ 2 ^ (32 - count) = omega arith in
    rw (kept_all, first_is, count_is) refl

-- an address that begins with the bits of a prefix lies between its first and its last one
pub ends_there : (x : ℕ) (q : List Bool) → x < 2 ^ 32 → length q ≤ 32 → LiesWithin (address_bits x) q →
    AreBetween (address_of q) (last_address q) x
ends_there x q fits short h =
    let m = 2 ^ (32 - length q) in
    let low : address_of q ≡ x / m * m =
    sym (ap (λ (p : List Bool). address_of p) h) ∙ address_of-prefix_bits x (length q) fits short in
    let parts = quotients x m (pow_pos (32 - length q)) in
    record { least = rw low parts.0; most = rw low parts.1 }

-- what is left of an address between them
remainder : (x first m : ℕ) → 0 < m → first ≤ x → x ≤ first + (m - 1) → (x - first < m) × (first + (x - first) ≡ x)
remainder x first m some least most = ((omega arith), (omega arith))

quotient_of : (x n k : ℕ) → n * 2 ^ k ≤ x → x ≤ n * 2 ^ k + (2 ^ k - 1) → x / 2 ^ k ≡ n
quotient_of x n k least most =
    let left = remainder x (n * 2 ^ k) (2 ^ k) (pow_pos k) least most in
    subst (λ (y : ℕ). y / 2 ^ k ≡ n) left.1 (shr_high n k (x - n * 2 ^ k) left.0)

-- and an address between them begins with its bits
pub ends_back : (x : ℕ) (q : List Bool) → length q ≤ 32 → AreBetween (address_of q) (last_address q) x → LiesWithin (address_bits x) q
ends_back x q short h =
    let n : x / 2 ^ (32 - length q) ≡ number q = quotient_of x (number q) (32 - length q) h.least h.most in
    sym (prefix_bits-cleared x (length q) short)
    ∙ (ap (λ (k : ℕ). prefix_bits (k * 2 ^ (32 - length q)) (length q)) n ∙ prefix_bits-address_of q short)

-- the addresses that begin with known bits
pub between : (known net : List Bool) (kept : ℕ) → LiesWithin net known → length known ≤ kept → kept ≤ length net → length net ≤ 32 →
    AreBetween (address_of known) (last_address known) (address_of (take kept net))
between known net kept begins few h fits =
    let long : length (take kept net) ≡ kept = length-take kept net ∙ omega arith in
    ends_there (address_of (take kept net)) known (address_below (take kept net) (omega arith)) (omega arith)
    (first_bits (take kept net) (length known) (omega arith) (omega arith) ∙ (take-take (length known) kept net few ∙ begins))
