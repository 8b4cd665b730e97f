-- Prefixes in their fields.
use Rattle.std.proofs.Common.{◌≡◌, ℕ, ◌+◌, ◌-◌, ◌*◌, ◌^◌, ◌<◌, ◌≤◌, ◌&&◌, Bool, true, false, eqb, leb, List, [], ◌∷◌, ◌++◌}
use Rattle.std.proofs.Common.{length, take, slice_index, refl, sym, ap, subst, ◌∙◌, arith, eq-eqb}
use Rattle.std.proofs.Math.Nat.{mul-lt-mul_of_pos_right}
use Rattle.std.proofs.lemmas.Nat.{pow-add, pow_pos}
use Rattle.std.proofs.lemmas.Bool.{eqb-true, le-leb, leb-true}
use Rattle.std.proofs.lemmas.List.{length-take}
use Rattle.byteorder.specs.Endian.{big_number, big_bytes}
use Rattle.byteorder.specs.Numbers.{big_number-reads_back, big_from-take}
use Rattle.prefix_patterns.specs.Bits.{number, prefix_bits, address_of}
use Rattle.prefix_patterns.specs.BitLists.{number_lt, length-prefix_bits, prefix_bits-address_of}
use Rattle.code_file.specs.Fields.{IsBytes, is_prefix}
use Rattle.code_file.specs.Spelling.{prefix_bytes}
use Rattle.code_file.specs.Reading.{prefix_of}
use Rattle.code_file.proofs.Bytes.{IsBytes-take, bytes_again_4}

pub and_true : (a b : Bool) → (a && b) ≡ true → (a ≡ true) × (b ≡ true)
and_true true b e = (refl, e)
and_true false b e = absurd cc

pub true_and : (a b : Bool) → a ≡ true → b ≡ true → (a && b) ≡ true
true_and a b p q = rw (p, q) refl

-- the first address of a prefix has 32 bits
address_fits : (bits : List Bool) → length bits ≤ 32 → address_of bits < 2 ^ 32
address_fits bits limit =
    let less : number bits * 2 ^ (32 - length bits) < 2 ^ length bits * 2 ^ (32 - length bits) =
    mul-lt-mul_of_pos_right (number_lt bits) (pow_pos (32 - length bits)) in
    let sum : length bits + (32 - length bits) ≡ 32 = omega arith in
    subst (λ (top : ℕ). number bits * 2 ^ (32 - length bits) < top)
    (sym (pow-add 2 (length bits) (32 - length bits)) ∙ ap (λ (k : ℕ). 2 ^ k) sum) less

-- the address in the field of a prefix
address_again : (bits : List Bool) (tail : List ℕ) → length bits ≤ 32 → big_number 4 (prefix_bytes bits ++ tail) ≡ address_of bits
address_again bits tail limit = big_number-reads_back 4 (address_of bits) (length bits ∷ tail) (address_fits bits limit)

-- the field of a prefix is good, and is read back, whatever follows
pub prefix_again : (bits : List Bool) (tail : List ℕ) → length bits ≤ 32 → prefix_of (prefix_bytes bits ++ tail) ≡ bits
prefix_again bits tail limit =
    ap (λ (a : ℕ). prefix_bits a (length bits)) (address_again bits tail limit) ∙ prefix_bits-address_of bits limit

pub prefix_is_good : (bits : List Bool) (tail : List ℕ) → length bits ≤ 32 → is_prefix (prefix_bytes bits ++ tail) ≡ true
prefix_is_good bits tail limit =
    let address = big_number 4 (prefix_bytes bits ++ tail) in
    let clear : address_of (prefix_bits address (length bits)) ≡ address = ap address_of (prefix_again bits tail limit)
    ∙ sym (address_again bits tail limit) in
    true_and (leb (length bits) 32) (eqb (address_of (prefix_bits address (length bits))) address) (le-leb _ _ limit) (eq-eqb _ _ clear)

-- good bytes are those of the prefix in them
pub record HasPrefix (bytes : List ℕ) : Type 0 where
  pub limit : length (prefix_of bytes) ≤ 32
  pub parts : prefix_bytes (prefix_of bytes) ≡ take 4 bytes ++ slice_index bytes 4 ∷ []

pub has_prefix : (bytes : List ℕ) → 5 ≤ length bytes → IsBytes bytes → is_prefix bytes ≡ true → HasPrefix bytes
has_prefix bytes long h good =
    let address = big_number 4 bytes in
    let len = slice_index bytes 4 in
    let both = and_true (leb len 32) (eqb (address_of (prefix_bits address len)) address) good in
    let limit : len ≤ 32 = leb-true _ _ both.0 in
    let clear : address_of (prefix_bits address len) ≡ address = eqb-true _ _ both.1 in
    let count : length (prefix_bits address len) ≡ len = length-prefix_bits address len limit in
    let front : big_bytes 4 (big_number 4 (take 4 bytes)) ≡ take 4 bytes =
    bytes_again_4 (take 4 bytes) (omega (arith, length-take 4 bytes)) (IsBytes-take 4 bytes h) in
    let same : big_number 4 (take 4 bytes) ≡ address = big_from-take 0 4 4 bytes (omega arith) in
    let again : big_bytes 4 address ≡ take 4 bytes = ap (big_bytes 4) (sym same) ∙ front in
    record {
      limit = omega (arith, count, limit);
      parts = ap (λ (a : ℕ). big_bytes 4 a ++ length (prefix_bits address len) ∷ []) clear
          ∙ ap (λ (n : ℕ). big_bytes 4 address ++ n ∷ []) count ∙ ap (λ (b : List ℕ). b ++ len ∷ []) again;
    }

-- ---- lists of five and of seven cells

pub five : (bytes : List ℕ) → length bytes ≡ 5 → take 4 bytes ++ slice_index bytes 4 ∷ [] ≡ bytes
five (a ∷ b ∷ c ∷ d ∷ e ∷ []) len = refl
five bytes len = absurd (omega arith)

pub seven : (bytes : List ℕ) → length bytes ≡ 7 →
    (take 4 bytes ++ slice_index bytes 4 ∷ []) ++ slice_index bytes 5 ∷ slice_index bytes 6 ∷ [] ≡ bytes
seven (a ∷ b ∷ c ∷ d ∷ e ∷ f ∷ g ∷ []) len = refl
seven bytes len = absurd (omega arith)
