-- The patterns of a leaf, compared under masks.
use Rattle.std.proofs.Common.{◌≡◌, ℕ, zero, suc, ◌-◌, ◌*◌, ◌/◌, ◌^◌, ◌<◌, ◌≤◌, ◌==◌, min, bit_and, ◌||◌, Bool, false}
use Rattle.std.proofs.Common.{Option, Some, None, List, [], ◌∷◌, ◌++◌, length, take, slice_get, get_or, refl, sym, ap, ◌∙◌, subst, arith, inl, inr}
use Rattle.std.proofs.Common.{◌+◌, add-one, append-nil, append_assoc, drop, drop-cons}
use Rattle.std.specs.Cmp.{booleans_Decides}
use Rattle.std.specs.Cmp.Lexicographic.{pointwise_decides}
use Rattle.std.proofs.Math.Bool.{or_assoc, or-false}
use Rattle.std.proofs.lemmas.Bool.{cases_lt}
use Rattle.std.proofs.lemmas.Bool.Decides.{Decides-eqb, Decides-like, same_from_decides}
use Rattle.std.proofs.lemmas.List.{drop_all, length-drop, length-take-le, take-append-drop, take_all}
use Rattle.std.proofs.lemmas.List.Folds.{list_any-append}
use Rattle.std.proofs.lemmas.Nat.{and_comm, pow_pos}
use Rattle.std.proofs.lemmas.Nat.Bits.{and_high_mask, and_high_masks}
use Rattle.std.proofs.Math.Nat.{mul-div_cancel}
use Rattle.prefix_patterns.specs.Bits.{address_of, number}
use Rattle.prefix_patterns.specs.BitLists.{address_below, prefix_bits-address_of}
use Rattle.prefix_patterns.specs.Matching.{PrefixPattern, has_same_bits, matches, matches_any, shared_length}
use Rattle.prefix_patterns.specs.Trees.{AreLeavesOf, IsEntry, IsLeafOf, IsVacant, mask_of}
use Rattle.prefix_patterns.specs.declared.leaf.Leaf.{Leaf}
use Rattle.prefix_patterns.proofs.BitsAt.{number-take-prefix_bits}
use Rattle.prefix_patterns.proofs.Buckets.{same_number}
use Rattle.prefix_patterns.proofs.Reached.{over_from_none}

-- the first bits of an address, under the mask of so many bits
under_mask : (bits : List Bool) (count : ℕ) → length bits ≤ 32 → count ≤ length bits →
    bit_and (address_of bits) (mask_of count) ≡ number (take count bits) * 2 ^ (32 - count)
under_mask bits count limit within =
    let below = address_below bits limit in
    let first : number (take count bits) ≡ address_of bits / 2 ^ (32 - count) =
    ap (λ b. number (take count b)) (sym (prefix_bits-address_of bits limit))
    ∙ number-take-prefix_bits (address_of bits) (length bits) count below limit within in
    and_high_mask 32 (32 - count) (omega arith) (address_of bits) below ∙ ap (λ n. n * 2 ^ (32 - count)) (sym first)

-- two masks together are that of the fewer bits
both_masks : (m n : ℕ) → m ≤ 32 → n ≤ 32 → bit_and (mask_of m) (mask_of n) ≡ mask_of (min m n)
both_masks m n few_m few_n =
    elim (cases_lt m n) [
      | inl less ↦
          let least : min m n ≡ m = omega arith in
          rw least (and_comm (mask_of m) (mask_of n) ∙ and_high_masks 32 (32 - m) (omega arith) (32 - n) (omega arith))
      | inr more ↦
          let least : min m n ≡ n = omega arith in
          rw least (and_high_masks 32 (32 - n) (omega arith) (32 - m) (omega arith))
    ]

same_product : (a b c : ℕ) → 0 < c → a * c ≡ b * c → a ≡ b
same_product a b c some e = sym (mul-div_cancel a some) ∙ ap (λ n. n / c) e ∙ mul-div_cancel b some

-- Under both masks the addresses of two prefixes are equal if the prefixes agree on the bits that both have.
pub same_under_masks : (p q : List Bool) (mask : ℕ) → length p ≤ 32 → length q ≤ 32 →
    mask ≡ bit_and (mask_of (length q)) (mask_of (length p)) →
    (bit_and (address_of q) mask == bit_and (address_of p) mask) ≡ has_same_bits p q
same_under_masks p q mask few_p few_q is =
    let n = shared_length p q in
    let turned : min (length q) (length p) ≡ n = omega arith in
    let least : mask ≡ mask_of n = is ∙ both_masks (length q) (length p) few_q few_p ∙ ap mask_of turned in
    let of_p : bit_and (address_of p) mask ≡ number (take n p) * 2 ^ (32 - n) = rw least (under_mask p n few_p (omega arith)) in
    let of_q : bit_and (address_of q) mask ≡ number (take n q) * 2 ^ (32 - n) = rw least (under_mask q n few_q (omega arith)) in
    let lengths : length (take n p) ≡ length (take n q) =
    length-take-le n p (omega arith) ∙ sym (length-take-le n q (omega arith)) in
    let same_lists = λ (e : bit_and (address_of q) mask ≡ bit_and (address_of p) mask).
    same_number (take n p) (take n q) lengths
    (sym (same_product (number (take n q)) (number (take n p)) (2 ^ (32 - n)) (pow_pos (32 - n)) (sym of_q ∙ e ∙ of_p))) in
    let same_addresses = λ (e : take n p ≡ take n q).
    of_q ∙ ap (λ b. number b * 2 ^ (32 - n)) (sym e) ∙ sym of_p in
    same_from_decides _ _ (Decides-like _ same_lists same_addresses (Decides-eqb _ _))
    (pointwise_decides booleans_Decides (take n p) (take n q))

-- whether a prefix matches the pattern at a place, if there is one
abbrev pub found_in : List Bool → Option PrefixPattern → Bool
found_in prefix None = false
found_in prefix (Some pattern) = matches prefix pattern

-- what is found at a place of a leaf, by what is known of a pattern there and of none
found_at : (leaf : Leaf) (prefix : List Bool) (part : List PrefixPattern) (at : ℕ) (found : Bool) (here : Option PrefixPattern) →
    ((pattern : PrefixPattern) → IsEntry leaf at pattern → found ≡ matches prefix pattern) →
    (IsVacant leaf at → found ≡ false) →
    IsLeafOf leaf part → at < 8 → slice_get part at ≡ here → found ≡ found_in prefix here
found_at leaf prefix part at found None filled empty h within is =
    empty (h.vacant at (over_from_none part at is) within)
found_at leaf prefix part at found (Some pattern) filled empty h within is = filled pattern (h.filled at pattern is)

pub told_at : (leaf : Leaf) (prefix : List Bool) (part : List PrefixPattern) (at : ℕ) (found : Bool) →
    ((pattern : PrefixPattern) → IsEntry leaf at pattern → found ≡ matches prefix pattern) →
    (IsVacant leaf at → found ≡ false) →
    IsLeafOf leaf part → at < 8 → found ≡ found_in prefix (slice_get part at)
told_at leaf prefix part at found filled empty h within =
    found_at leaf prefix part at found (slice_get part at) filled empty h within refl

-- one more place of a list is tested, behind those before it
found_more : (prefix : List Bool) (part : List PrefixPattern) (at : ℕ) →
    (matches_any prefix (take at part) || found_in prefix (slice_get part at)) ≡ matches_any prefix (take (suc at) part)
found_more prefix [] zero = refl
found_more prefix [] (suc at) = refl
found_more prefix (p ∷ part) zero = sym (or-false (matches prefix p))
found_more prefix (p ∷ part) (suc at) =
    or_assoc (matches prefix p) (matches_any prefix (take at part)) (found_in prefix (slice_get part at))
    ∙ ap (λ b. matches prefix p || b) (found_more prefix part at)

told_more : (prefix : List Bool) (part : List PrefixPattern) (at : ℕ) (found : Bool) → found ≡ matches_any prefix (take at part) →
    (found || found_in prefix (slice_get part at)) ≡ matches_any prefix (take (suc at) part)
told_more prefix part at found e = ap (λ b. b || found_in prefix (slice_get part at)) e ∙ found_more prefix part at

-- eight tests, one after another
module _ (prefix : List Bool) (part : List PrefixPattern) where
  abbrev found_at_place : ℕ → Bool
  found_at_place at = found_in prefix (slice_get part at)

  pub any_of_eight : length part ≤ 8 →
      (((((((found_at_place 0 || found_at_place 1) || found_at_place 2) || found_at_place 3) || found_at_place 4) || found_at_place 5)
      || found_at_place 6) || found_at_place 7) ≡ matches_any prefix part
  any_of_eight few =
      let one = found_more prefix part 0 in
      let two = told_more prefix part 1 _ one in
      let three = told_more prefix part 2 _ two in
      let four = told_more prefix part 3 _ three in
      let five = told_more prefix part 4 _ four in
      let six = told_more prefix part 5 _ five in
      let seven = told_more prefix part 6 _ six in
      let eight = told_more prefix part 7 _ seven in
      eight ∙ ap (matches_any prefix) (take_all 8 part few)

-- one more leaf has the patterns that follow
pub one_more_leaf : (leaves : List Leaf) (leaf : Leaf) (done few : List PrefixPattern) → AreLeavesOf leaves done → IsLeafOf leaf few →
    AreLeavesOf (leaves ++ leaf ∷ []) (done ++ few)
one_more_leaf [] leaf done few none of = (few, [], rw none (sym (append-nil few)), of, refl)
one_more_leaf (l ∷ leaves) leaf done few (first, rest, e, is, more) of =
    (first, rest ++ few, ap (λ xs. xs ++ few) e ∙ append_assoc first rest few, is, one_more_leaf leaves leaf rest few more of)

pub leaves_more : (leaves pushed : List Leaf) (leaf : Leaf) (patterns done rest few others : List PrefixPattern) → patterns ≡ done ++ rest →
    AreLeavesOf leaves done → IsLeafOf leaf few → pushed ≡ leaves ++ leaf ∷ [] → few ++ others ≡ rest →
    (more : List PrefixPattern) × (patterns ≡ more ++ others) × AreLeavesOf pushed more
leaves_more leaves pushed leaf patterns done rest few others split are of grown e = (
  done ++ few,
  split ∙ ap (λ xs. done ++ xs) (sym e) ∙ sym (append_assoc done few others),
  rw grown (one_more_leaf leaves leaf done few are of),
)

-- the first patterns and those that follow them
pub first_and_rest : (patterns : List PrefixPattern) (count : ℕ) →
    take count patterns ++ take (length patterns - count) (drop count patterns) ≡ patterns
first_and_rest patterns count =
    ap (λ xs. take count patterns ++ xs)
    (take_all (length patterns - count) (drop count patterns) (omega (arith, length-drop count patterns)))
    ∙ take-append-drop count patterns

-- a scan of leaves that found no match so far: the next of them, and all
module _ (leaves : List Leaf) (prefix : List Bool) (patterns done rest : List PrefixPattern) (index : ℕ)
    (split : patterns ≡ done ++ rest) (are : AreLeavesOf (drop index leaves) rest) (none_yet : matches_any prefix done ≡ false) where
  -- the patterns of the next leaf, and those behind them
  pub record IsNext (d : Leaf) : Type 0 where
    pub few : List PrefixPattern
    pub left : List PrefixPattern
    pub split_more : patterns ≡ (done ++ few) ++ left
    pub leaf : IsLeafOf (get_or leaves index d) few
    pub are_left : AreLeavesOf (drop (index + 1) leaves) left
    pub told : matches_any prefix (done ++ few) ≡ matches_any prefix few
    pub all_told : matches_any prefix patterns ≡ (matches_any prefix few || matches_any prefix left)

  pub next_leaf : (d : Leaf) → index < length leaves → IsNext d
  next_leaf d within =
      let first : drop index leaves ≡ get_or leaves index d ∷ drop (index + 1) leaves = rw add-one (drop-cons leaves index d within) in
      let (few, left, e, of, more) = subst (λ ls. AreLeavesOf ls rest) first are in
      let whole : patterns ≡ (done ++ few) ++ left = split ∙ ap (λ xs. done ++ xs) e ∙ sym (append_assoc done few left) in
      let so_far : matches_any prefix (done ++ few) ≡ matches_any prefix few =
      list_any-append (matches prefix) done few ∙ ap (λ b. b || matches_any prefix few) none_yet in
      record {
        few = few;
        left = left;
        split_more = whole;
        leaf = of;
        are_left = more;
        told = so_far;
        all_told = ap (matches_any prefix) whole ∙ list_any-append (matches prefix) (done ++ few) left
            ∙ ap (λ b. b || matches_any prefix left) so_far;
      }

  pub scanned_all : length leaves ≤ index → matches_any prefix patterns ≡ false
  scanned_all over =
      let none : rest ≡ [] = subst (λ ls. AreLeavesOf ls rest) (drop_all index leaves over) are in
      ap (matches_any prefix) (split ∙ ap (λ xs. done ++ xs) none ∙ append-nil done) ∙ none_yet
