-- Marks of prefixes of up to 8 bits.
use Rattle.std.proofs.Common.{◌≡◌, ℕ, suc, ◌+◌, ◌*◌, ◌^◌, ◌<◌, ◌≤◌, nat_le, nat_lt, Bool, true, false, ◌&&◌, ◌||◌}
use Rattle.std.proofs.Common.{List, length, take, get_or, set, refl, sym, ap, ◌∙◌, arith, inl, inr}
use Rattle.std.proofs.Math.Nat.{pow-suc, pow-le-pow_right}
use Rattle.std.proofs.lemmas.Bool.{cases_eq, cases_lt}
use Rattle.std.proofs.lemmas.Bool.Decides.{nat_tests}
use Rattle.std.proofs.lemmas.List.{get_or-set_same, get_or-set_other, length-take-le, take_all}
use Rattle.prefix_patterns.specs.Bits.{number}
use Rattle.prefix_patterns.specs.BitLists.{number_lt}
use Rattle.prefix_patterns.specs.Matching.{PrefixPattern}
use Rattle.prefix_patterns.specs.Trees.{agree, index_of}
use Rattle.prefix_patterns.proofs.Buckets.{agree_first, first_same, same_number}

-- an index has a 1 above its bits, so that bits of other lengths have other indices
index_high : (v w : List Bool) → length v < length w → index_of v < index_of w
index_high v w less =
    let below = number_lt v in
    let two : 0 < 2 = omega arith in
    let order : suc (length v) ≤ length w = omega arith in
    let most : 2 ^ suc (length v) ≤ 2 ^ length w = pow-le-pow_right two order in
    let twice : 2 ^ suc (length v) ≡ 2 * 2 ^ length v = pow-suc 2 (length v) ∙ omega arith in
    omega arith

same_length : (v w : List Bool) → index_of v ≡ index_of w → length v ≡ length w
same_length v w e =
    elim (cases_lt (length v) (length w)) [
      | inl less ↦ absurd (let order = index_high v w less in omega arith)
      | inr most ↦ elim (cases_lt (length w) (length v)) [
        | inl more ↦ absurd (let order = index_high w v more in omega arith)
        | inr least ↦ omega arith
      ]
    ]

same_bits : (v w : List Bool) → index_of v ≡ index_of w → v ≡ w
same_bits v w e =
    let len = same_length v w e in
    let power : 2 ^ length v ≡ 2 ^ length w = ap (λ n. 2 ^ n) len in
    let digits : number v ≡ number w = omega arith in
    same_number v w len digits

-- up to 8 bits have an index below 512
pub index_within : (w : List Bool) → length w ≤ 8 → index_of w < 512
index_within w few =
    let below = number_lt w in
    let two : 0 < 2 = omega arith in
    let order : suc (length w) ≤ 9 = omega arith in
    let most : 2 ^ suc (length w) ≤ 2 ^ 9 = pow-le-pow_right two order in
    let twice : 2 ^ suc (length w) ≡ 2 * 2 ^ length w = pow-suc 2 (length w) ∙ omega arith in
    omega arith

-- a length from the least to the one before the next
abbrev pub is_done : ℕ → ℕ → ℕ → Bool
is_done low next len = nat_le low len && nat_lt len next

now_done : (low next len : ℕ) → len ≡ next → low ≤ next → is_done low (next + 1) len ≡ true
now_done low next len e order = grind (arith, nat_tests)

others_done : (low next len : ℕ) → (len ≡ next → ⊥) → is_done low (next + 1) len ≡ is_done low next len
others_done low next len other = grind (arith, nat_tests)

-- a prefix that is not the first bits of a pattern, and is as long as these, does not agree with it
no_agreement : (w bits : List Bool) (len : ℕ) (b : Bool) → length w ≡ len → len ≤ length bits → (w ≡ take len bits → ⊥) →
    agree w bits ≡ b → b ≡ false
no_agreement w bits len false e within other is = refl
no_agreement w bits len true e within other is =
    absurd (other (sym (take_all len w (omega arith)) ∙ first_same len w bits is (omega arith) within))

or_true : (a b : Bool) → b ≡ true → true ≡ (a || b)
or_true true b e = refl
or_true false b e = sym e

-- one more length of a pattern is marked
module _ (marks : List Bool) (p : PrefixPattern) (low len at : ℕ) (order : low ≤ len) (within : len ≤ length p.bits)
    (is : at ≡ index_of (take len p.bits)) (inside : at < length marks) (w : List Bool) (d before : Bool)
    (so_far : get_or marks (index_of w) d ≡ (before || (agree w p.bits && is_done low len (length w)))) where
  marked_here : w ≡ take len p.bits →
      get_or (set marks at true) (index_of w) d ≡ (before || (agree w p.bits && is_done low (len + 1) (length w)))
  marked_here same =
      let there : index_of w ≡ at = ap index_of same ∙ sym is in
      let bits : agree w p.bits ≡ true = ap (λ v. agree v p.bits) same ∙ agree_first len p.bits in
      let lens : length w ≡ len = ap length same ∙ length-take-le len p.bits within in
      let both : (agree w p.bits && is_done low (len + 1) (length w)) ≡ true = rw (bits, now_done low len (length w) lens order) refl in
      rw there (get_or-set_same marks at true d inside) ∙ or_true before _ both

  same_rest : (w ≡ take len p.bits → ⊥) →
      (agree w p.bits && is_done low (len + 1) (length w)) ≡ (agree w p.bits && is_done low len (length w))
  same_rest other =
      elim (cases_eq (length w) len) [
        | inl same ↦ let none = no_agreement w p.bits len (agree w p.bits) same within other refl in rw none refl
        | inr apart ↦ ap (λ b. agree w p.bits && b) (others_done low len (length w) apart)
      ]

  pub one_marked : get_or (set marks at true) (index_of w) d ≡ (before || (agree w p.bits && is_done low (len + 1) (length w)))
  one_marked =
      elim (cases_eq (index_of w) at) [
        | inl same ↦ marked_here (same_bits w (take len p.bits) (same ∙ is))
        | inr other ↦
            get_or-set_other marks at (index_of w) true d other ∙ so_far
            ∙ ap (λ b. before || b) (sym (same_rest (λ same. other (ap index_of same ∙ sym is))))
      ]
