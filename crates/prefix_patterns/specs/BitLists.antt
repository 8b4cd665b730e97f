-- Lists of bits and their numbers. These lemmas are in specs/ since the model of `Prefix` cites the last of them that
-- speaks of its fields, `fields_again`.
use Rattle.std.proofs.Math.Nat.{pow-suc, add-mul-div_right}
use Rattle.std.proofs.Common.{Bool, List, [], ◌∷◌, lit<, true, false, ◌≡◌, ℕ, zero, suc, ◌+◌, ◌-◌, ◌*◌, ◌/◌, ◌%◌, ◌^◌, ◌==◌, ◌<◌}
use Rattle.std.proofs.Common.{◌≤◌, cond, length, take, refl, sym, ◌∙◌, ap, arith}
use Rattle.std.proofs.lemmas.Nat.{shl_below, shr_high, pow_pos, mod-pow-add, shr-shr, shl-shr}
use Rattle.std.proofs.Math.Pow.{shr_mod}
use Rattle.std.proofs.lemmas.List.{length-take-le}
use Rattle.prefix_patterns.specs.Bits.{bits, number, prefix_bits, address_of, HasNoBitPast}
use Rattle.prefix_patterns.specs.declared.prefix.Prefix.TheInside.{Inside}

pub length-bits : (count n : ℕ) → length (bits count n) ≡ count
unfolding bits
length-bits zero n = refl
length-bits (suc count) n = ap (λ k. suc k) (length-bits count n)

-- the highest digit, as a number
digit_value : (r m : ℕ) → r < 2 → cond (r == 1) m 0 ≡ r * m
digit_value zero m h = omega arith
digit_value (suc zero) m h = omega arith
digit_value (suc (suc r)) m h = absurd (omega arith)

-- the lowest digits are the remainder
pub number-bits : (count n : ℕ) → number (bits count n) ≡ n % 2 ^ count
unfolding bits number
number-bits zero n = omega arith
number-bits (suc count) n =
    let split : n % 2 ^ (1 + count) ≡ (n / 2 ^ count % 2 ^ 1) * 2 ^ count + n % 2 ^ count = mod-pow-add n 1 count in
    let top : cond (n / 2 ^ count % 2 == 1) (2 ^ count) 0 ≡ (n / 2 ^ count % 2) * 2 ^ count = digit_value _ _ (omega arith) in
    let e : 1 + count ≡ suc count = omega arith in
    rw (length-bits count n, number-bits count n, top, ← e, split) refl

-- the highest of the lowest digits are digits of the quotient
pub take-bits : (len count rest n : ℕ) → count ≡ len + rest → take len (bits count n) ≡ bits len (n / 2 ^ rest)
unfolding bits
take-bits zero count rest n e = refl
take-bits (suc len) zero rest n e = absurd (omega arith)
take-bits (suc len) (suc count) rest n e =
    let here : count ≡ len + rest = omega arith in
    let at : rest + len ≡ count = omega arith in
    rw (take-bits len count rest n here, shr-shr n rest len, at) refl

-- a prefix has as many bits as it is long
pub length-prefix_bits : (address len : ℕ) → len ≤ 32 → length (prefix_bits address len) ≡ len
length-prefix_bits address len limit = length-take-le len (bits 32 address) (rw (length-bits 32 address) limit)

-- the bits of a prefix are the digits above the others
pub prefix-quotient : (address len : ℕ) → len ≤ 32 → prefix_bits address len ≡ bits len (address / 2 ^ (32 - len))
prefix-quotient address len limit = take-bits len 32 (32 - len) address (omega arith)

-- the first address of a prefix is the address with zeros for the other digits
pub address_of-prefix_bits : (address len : ℕ) → address < 2 ^ 32 → len ≤ 32 →
    address_of (prefix_bits address len) ≡ address / 2 ^ (32 - len) * 2 ^ (32 - len)
address_of-prefix_bits address len fits limit =
    let split : len + (32 - len) ≡ 32 = omega arith in
    let high : address / 2 ^ (32 - len) % 2 ^ len ≡ address / 2 ^ (32 - len) = shr_mod len (32 - len) (rw split fits) in
    rw (length-prefix_bits address len limit, prefix-quotient address len limit, number-bits len (address / 2 ^ (32 - len)), high) refl

-- zeros for the other digits leave the prefix as it is
pub prefix_bits-cleared : (address len : ℕ) → len ≤ 32 →
    prefix_bits (address / 2 ^ (32 - len) * 2 ^ (32 - len)) len ≡ prefix_bits address len
prefix_bits-cleared address len limit =
    prefix-quotient _ len limit
    ∙ ap (bits len) (shl-shr (address / 2 ^ (32 - len)) (32 - len))
    ∙ sym (prefix-quotient address len limit)

-- the bits of a prefix give its fields back
pub fields_again : (p : Inside) → HasNoBitPast p.len p.address →
    record { address = address_of (prefix_bits p.address p.len); len = length (prefix_bits p.address p.len) } ≡ p
fields_again p clear = rw (clear.clear, length-prefix_bits p.address p.len clear.limit) refl

-- higher digits do not change the lowest
bits-add : (count high low : ℕ) → bits count (low + high * 2 ^ count) ≡ bits count low
unfolding bits
bits-add zero high low = refl
bits-add (suc count) high low =
    let regrouped : low + high * 2 ^ suc count ≡ low + (high * 2) * 2 ^ count = rw (pow-suc 2 count) (omega arith) in
    let digit : (low / 2 ^ count + high * 2) % 2 ≡ low / 2 ^ count % 2 = omega arith in
    rw (regrouped, add-mul-div_right low (high * 2) (pow_pos count), digit, bits-add count (high * 2) low) refl

pub number_lt : (digits : List Bool) → number digits < 2 ^ length digits
unfolding number
number_lt [] = lit< tt
number_lt (true ∷ digits) = rw (pow-suc 2 (length digits)) (omega (arith, number_lt digits))
number_lt (false ∷ digits) = rw (pow-suc 2 (length digits)) (omega (arith, number_lt digits))

-- an address of a prefix has 32 bits
pub address_below : (prefix : List Bool) → length prefix ≤ 32 → address_of prefix < 2 ^ 32
address_below prefix limit =
    let all : length prefix + (32 - length prefix) ≡ 32 = omega arith in
    rw all at (shl_below (number prefix) (length prefix) (32 - length prefix) (number_lt prefix))

-- one more digit above
digit_above : (digits : List Bool) (digit : Bool) (high n : ℕ) → n ≡ number digits + high * 2 ^ length digits → (high % 2 == 1) ≡ digit
    → bits (length digits) (number digits) ≡ digits → bits (suc (length digits)) n ≡ digit ∷ digits
unfolding bits
digit_above digits digit high n e top below =
    let turned : number digits + high * 2 ^ length digits ≡ high * 2 ^ length digits + number digits = omega arith in
    let head : (number digits + high * 2 ^ length digits) / 2 ^ length digits ≡ high =
    ap (λ m. m / 2 ^ length digits) turned ∙ shr_high high (length digits) (number digits) (number_lt digits) in
    rw (e, head, top, bits-add (length digits) high (number digits), below) refl

bits_none : (n : ℕ) → bits 0 n ≡ []
unfolding bits
bits_none n = refl

-- the digits of the number that digits stand for
pub bits-number : (digits : List Bool) → bits (length digits) (number digits) ≡ digits
unfolding number
bits-number [] = bits_none (number [])
bits-number (true ∷ digits) = digit_above digits true 1 _ (omega arith) refl (bits-number digits)
bits-number (false ∷ digits) = digit_above digits false 0 _ (omega arith) refl (bits-number digits)

-- a prefix is the first bits of its address
pub prefix_bits-address_of : (prefix : List Bool) → length prefix ≤ 32 → prefix_bits (address_of prefix) (length prefix) ≡ prefix
prefix_bits-address_of prefix limit =
    prefix-quotient (address_of prefix) (length prefix) limit
    ∙ ap (bits (length prefix)) (shl-shr (number prefix) (32 - length prefix))
    ∙ bits-number prefix
