-- Tests of prefixes as matches of patterns.
use Rattle.std.proofs.Common.{◌≡◌, ℕ, ◌≤◌, min, Bool, true, List, length, take, refl, sym, ◌∙◌, ap, subst, arith}
use Rattle.std.specs.Bool.{beq}
use Rattle.std.specs.Cmp.{booleans_Decides}
use Rattle.std.specs.Cmp.Lexicographic.{pointwise, pointwise_decides}
use Rattle.std.proofs.lemmas.Bool.Decides.{Decides-like, same_from_decides}
use Rattle.std.proofs.lemmas.List.{length-take, take_all, take-take}
use Rattle.prefix_patterns.specs.Bits.{address_bits, address_of}
use Rattle.prefix_patterns.specs.Matching.{LiesWithin, Matches, PrefixPattern, lies_within, matches}
use Rattle.prefix_patterns.proofs.Matches.{lies_within-Decides, matches-Decides}
use Rattle.filter_diff.proofs.Knowing.{first_bits}

-- all bits of a list
whole : (p : List Bool) (n : ℕ) → length p ≤ n → take n p ≡ p
whole p n h = take_all n p h

abbrev pattern : List Bool → ℕ → ℕ → PrefixPattern
pattern bits low high = record { bits = bits; low = low; high = high }

equal_there : (net q : List Bool) → Matches net (pattern q (length q) (length q)) → net ≡ q
equal_there net q m =
    let low : length q ≤ length net = m.low in
    let high : length net ≤ length q = m.high in
    sym (whole net (min (length net) (length q)) (omega arith)) ∙ (m.same ∙ whole q (min (length net) (length q)) (omega arith))

equal_back : (net q : List Bool) → net ≡ q → Matches net (pattern q (length q) (length q))
equal_back net q e =
    let long : length net ≡ length q = ap length e in
    record { low = omega arith; high = omega arith; same = ap (take (min (length net) (length q))) e }

-- a prefix equals another where it matches the pattern of it and its length
pub equals_matches : (net q : List Bool) → matches net (pattern q (length q) (length q)) ≡ pointwise beq net q
equals_matches net q =
    same_from_decides _ _
    (Decides-like _ (equal_there net q) (equal_back net q) (matches-Decides net (pattern q (length q) (length q))))
    (pointwise_decides booleans_Decides net q)

-- and where the other equals it
pub matches_equals : (net q : List Bool) → matches net (pattern q (length q) (length q)) ≡ pointwise beq q net
matches_equals net q =
    same_from_decides _ _
    (Decides-like _ (λ m. sym (equal_there net q m)) (λ e. equal_back net q (sym e))
    (matches-Decides net (pattern q (length q) (length q))))
    (pointwise_decides booleans_Decides q net)

pub same_self : (p : List Bool) → pointwise beq p p ≡ true
same_self p = (pointwise_decides booleans_Decides p p).1 refl

pub within_self : (p : List Bool) → lies_within p p ≡ true
within_self p = (lies_within-Decides p p).1 (whole p (length p) (omega arith))

within_there : (net q : List Bool) → Matches net (pattern q (length q) 32) → LiesWithin net q
within_there net q m =
    let low : length q ≤ length net = m.low in
    let shared : min (length net) (length q) ≡ length q = omega arith in
    subst (λ (n : ℕ). take n net ≡ take n q) shared m.same ∙ whole q (length q) (omega arith)

within_back : (net q : List Bool) → length net ≤ 32 → LiesWithin net q → Matches net (pattern q (length q) 32)
within_back net q fits e =
    let long : min (length q) (length net) ≡ length q = sym (length-take (length q) net) ∙ ap length e in
    let shared : length q ≡ min (length net) (length q) = omega arith in
    record {
      low = omega arith;
      high = fits;
      same = subst (λ (n : ℕ). take n net ≡ take n q) shared (e ∙ sym (whole q (length q) (omega arith)));
    }

-- a prefix lies within another where it matches the pattern of it and all longer ones
pub within_matches : (net q : List Bool) → length net ≤ 32 → matches net (pattern q (length q) 32) ≡ lies_within net q
within_matches net q fits =
    same_from_decides _ _
    (Decides-like _ (within_there net q) (within_back net q fits) (matches-Decides net (pattern q (length q) 32)))
    (lies_within-Decides net q)

around_there : (net q : List Bool) → Matches net (pattern q 0 (length q)) → LiesWithin q net
around_there net q m =
    let high : length net ≤ length q = m.high in
    let shared : min (length net) (length q) ≡ length net = omega arith in
    sym (subst (λ (n : ℕ). take n net ≡ take n q) shared m.same) ∙ whole net (length net) (omega arith)

around_back : (net q : List Bool) → LiesWithin q net → Matches net (pattern q 0 (length q))
around_back net q e =
    let long : min (length net) (length q) ≡ length net = sym (length-take (length net) q) ∙ ap length e in
    let shared : length net ≡ min (length net) (length q) = omega arith in
    record {
      low = omega arith;
      high = omega arith;
      same = subst (λ (n : ℕ). take n net ≡ take n q) shared (whole net (length net) (omega arith) ∙ sym e);
    }

-- another lies within a prefix where that matches the pattern of it and all shorter ones
pub matches_within : (net q : List Bool) → matches net (pattern q 0 (length q)) ≡ lies_within q net
matches_within net q =
    same_from_decides _ _
    (Decides-like _ (around_there net q) (around_back net q) (matches-Decides net (pattern q 0 (length q))))
    (lies_within-Decides q net)

-- the first bits of the address of the first bits
address_first : (net : List Bool) (kept n : ℕ) → kept ≤ length net → length net ≤ 32 → n ≤ kept →
    take n (address_bits (address_of (take kept net))) ≡ take n net
address_first net kept n h fits few =
    let long : length (take kept net) ≡ kept = length-take kept net ∙ omega arith in
    first_bits (take kept net) n (omega arith) (omega arith) ∙ take-take n kept net few

-- the first address of a prefix lies within it
pub own_lies : (net : List Bool) (kept : ℕ) → kept ≡ length net → length net ≤ 32 →
    lies_within (address_bits (address_of (take kept net))) net ≡ true
own_lies net kept e fits =
    (lies_within-Decides (address_bits (address_of (take kept net))) net).1
    (address_first net kept (length net) (omega arith) fits (omega arith) ∙ whole net (length net) (omega arith))
