-- Patterns that cover others.
use Rattle.std.proofs.Common.{◌≡◌, ◌≢◌, ℕ, ◌<◌, ◌≤◌, min, nat_le, Bool, true, false, not, ◌&&◌, List, length}
use Rattle.std.proofs.Common.{take, get_or, Option, Some, None, refl, sym, ap, subst, ◌∙◌, arith}
use Rattle.std.specs.Prelude.{position, slice_get}
use Rattle.std.proofs.lemmas.List.{get_or-take, length-take, take-take}
use Rattle.std.proofs.lemmas.List.Quantifiers.{position-Some}
use Rattle.std.proofs.lemmas.Option.{get_or_from_slice_get, slice_get-get_or}
use Rattle.std.proofs.lemmas.Bool.Decides.{nat_tests}
use Rattle.prefix_patterns.specs.Matching.{LiesWithin, Matches, PrefixPattern, lies_within, shared_length}
use Rattle.prefix_patterns.proofs.Matches.{lies_within-Decides}
use Rattle.filter_lint.specs.Sets.{covering, covers, is_wider, or_else}

-- a prefix that agrees with a longer list of bits agrees with a front of it
agrees : (p inner outer : List Bool) → LiesWithin inner outer
    → take (shared_length p inner) p ≡ take (shared_length p inner) inner
    → take (shared_length p outer) p ≡ take (shared_length p outer) outer
agrees p inner outer within same =
    let n = min (length p) (length outer) in
    let m = min (length p) (length inner) in
    let few : min (length outer) (length inner) ≡ length outer = sym (length-take (length outer) inner) ∙ ap length within in
    let less : n ≤ m = omega (arith, few) in
    let front : n ≤ length outer = omega arith in
    sym (take-take n m p less) ∙ (ap (take n) same ∙ (take-take n m inner less
    ∙ (sym (take-take n (length outer) inner front) ∙ ap (take n) within)))

pub matches_outer : (inner outer : PrefixPattern) → outer.low ≤ inner.low → inner.high ≤ outer.high → LiesWithin inner.bits outer.bits
    → (p : List Bool) → Matches p inner → Matches p outer
matches_outer inner outer low high within p m =
    let from : inner.low ≤ length p = m.low in
    let to : length p ≤ inner.high = m.high in
    record {
      low = omega (arith, from, low);
      high = omega (arith, to, high);
      same = agrees p inner.bits outer.bits within m.same;
    }

by_tests : (inner outer : PrefixPattern) (a b c : Bool) → nat_le outer.low inner.low ≡ a → nat_le inner.high outer.high ≡ b
    → lies_within inner.bits outer.bits ≡ c → (a && (b && c)) ≡ true → (p : List Bool) → Matches p inner → Matches p outer
by_tests inner outer true true true low high within e =
    matches_outer inner outer (grind (arith, nat_tests)) (grind (arith, nat_tests)) ((lies_within-Decides inner.bits outer.bits).0 within)
by_tests inner outer true true false low high within e = let no : ⊥ = cc in absurd no
by_tests inner outer true false c low high within e = let no : ⊥ = cc in absurd no
by_tests inner outer false b c low high within e = let no : ⊥ = cc in absurd no

-- a pattern that covers another matches what the other matches
pub covers_all : (inner outer : PrefixPattern) → covers outer inner ≡ true → (p : List Bool) → Matches p inner → Matches p outer
covers_all inner outer e =
    by_tests inner outer (nat_le outer.low inner.low) (nat_le inner.high outer.high) (lies_within inner.bits outer.bits) refl refl refl e

-- no pattern is wider than itself
differs : (b : Bool) → (b && not b) ≡ true → ⊥
differs true e = cc
differs false e = cc

not_wider : (p : PrefixPattern) → is_wider p p ≡ true → ⊥
not_wider p e = differs (covers p p) e

left : (a b : Bool) → (a && b) ≡ true → a ≡ true
left true b e = refl
left false b e = let no : ⊥ = cc in absurd no

-- a pattern of a list that covers another, and stands elsewhere
pub record Covers (patterns : List PrefixPattern) (at : ℕ) (inner : PrefixPattern) (k : ℕ) : Type 0 where
  pub outer : PrefixPattern
  pub there : slice_get patterns k ≡ Some outer
  pub apart : k ≢ at
  pub all : covers outer inner ≡ true

module _ (patterns : List PrefixPattern) (at : ℕ) (inner : PrefixPattern) (is : slice_get patterns at ≡ Some inner) (k : ℕ) where
  before : position (λ outer. covers outer inner) (take at patterns) ≡ Some k → Covers patterns at inner k
  before e =
      let found = position-Some (λ (outer : PrefixPattern). covers outer inner) (take at patterns) k inner e in
      let long : length (take at patterns) ≡ min at (length patterns) = length-take at patterns in
      let low : k < at = omega (arith, found.0, long) in
      let inside : k < length patterns = omega (arith, found.0, long) in
      record {
        outer = get_or patterns k inner;
        there = slice_get-get_or patterns k inner inside;
        apart = λ same. omega (arith, low, same);
        all = subst (λ (p : PrefixPattern). covers p inner ≡ true) (get_or-take at patterns k inner low) found.1;
      }

  wider : position (λ outer. is_wider outer inner) patterns ≡ Some k → Covers patterns at inner k
  wider e =
      let found = position-Some (λ (outer : PrefixPattern). is_wider outer inner) patterns k inner e in
      record {
        outer = get_or patterns k inner;
        there = slice_get-get_or patterns k inner found.0;
        apart = λ same. not_wider inner
            (subst (λ (p : PrefixPattern). is_wider p inner ≡ true)
            (get_or_from_slice_get patterns k inner inner (ap (slice_get patterns) same ∙ is)) found.1);
        all = left (covers (get_or patterns k inner) inner) (not (covers inner (get_or patterns k inner))) found.1;
      }

  either : (a b : Option ℕ) → position (λ outer. covers outer inner) (take at patterns) ≡ a
      → position (λ outer. is_wider outer inner) patterns ≡ b → or_else a b ≡ Some k → Covers patterns at inner k
  either (Some j) b e f chosen = before (e ∙ chosen)
  either None b e f chosen = wider (f ∙ chosen)

  pub covered : covering patterns at inner ≡ Some k → Covers patterns at inner k
  covered chosen =
      either (position (λ outer. covers outer inner) (take at patterns)) (position (λ outer. is_wider outer inner) patterns) refl refl chosen
