-- Ranges in order: what a search of them finds, and what merging two of them keeps.
use Rattle.std.proofs.Common.{◌≡◌, ℕ, ◌+◌, ◌-◌, ◌<◌, ◌≤◌, ◌||◌, max, Bool, true, false, List, [], ◌∷◌, ◌++◌, length}
use Rattle.std.proofs.Common.{get_or, set, take, refl, sym, ap, ◌∙◌, arith}
use Rattle.std.proofs.lemmas.Bool.Decides.{nat_tests}
use Rattle.std.proofs.lemmas.List.{length-set, take_all, take_more, take_more_set}
use Rattle.std.proofs.lemmas.List.Folds.{list_any-append}
use Rattle.std.proofs.lemmas.List.Sorted.{IsNonDecreasingBy-push}
use Rattle.std.specs.List.{All}
use Rattle.int_sets.specs.Holding.{NumberRange, holds, holds_any}
use Rattle.int_sets.specs.Merged.{AreRising}

-- two ranges of which the first reaches the second hold together what one from the first number to the greater last one holds
widened : (number : ℕ) (last range : NumberRange) → last.low ≤ range.low → range.low ≤ last.high →
    holds number (record { low = last.low; high = max last.high range.high }) ≡ (holds number last || holds number range)
widened number last range order reached = grind (arith, nat_tests)

or_turned : (a b c w : Bool) → w ≡ (b || c) → (a || (w || false)) ≡ ((a || (b || false)) || c)
or_turned true b c w e = refl
or_turned false true c true e = refl
or_turned false true c false e = e
or_turned false false true w e = grind (arith, e)
or_turned false false false w e = grind (arith, e)

-- a list is what stands before its last element, and that
last_apart : (ranges : List NumberRange) (last : NumberRange) → 0 < length ranges → last ≡ get_or ranges (length ranges - 1) last →
    ranges ≡ take (length ranges - 1) ranges ++ last ∷ []
last_apart ranges last some is =
    let all : take (length ranges - 1 + 1) ranges ≡ ranges = take_all _ ranges (omega arith) in
    sym all ∙ take_more ranges (length ranges - 1) last (omega arith) ∙ ap (λ r. take (length ranges - 1) ranges ++ r ∷ []) (sym is)

last_set : (ranges : List NumberRange) (new : NumberRange) → 0 < length ranges →
    set ranges (length ranges - 1) new ≡ take (length ranges - 1) ranges ++ new ∷ []
last_set ranges new some =
    let changed = set ranges (length ranges - 1) new in
    let all : take (length ranges - 1 + 1) changed ≡ changed = take_all _ changed (omega (arith, length-set ranges (length ranges - 1) new)) in
    sym all ∙ take_more_set ranges (length ranges - 1) new (omega arith)

-- the last range, widened to reach as far as a new one, holds what both hold
pub numbers_kept : (number : ℕ) (ranges : List NumberRange) (last range : NumberRange) → 0 < length ranges →
    last ≡ get_or ranges (length ranges - 1) last → last.low ≤ range.low → range.low ≤ last.high →
    holds_any number (set ranges (length ranges - 1) (record { low = last.low; high = max last.high range.high }))
    ≡ (holds_any number ranges || holds number range)
numbers_kept number ranges last range some is order reached =
    let new : NumberRange = record { low = last.low; high = max last.high range.high } in
    let front = take (length ranges - 1) ranges in
    ap (holds_any number) (last_set ranges new some)
    ∙ list_any-append (holds number) front (new ∷ [])
    ∙ or_turned (holds_any number front) (holds number last) (holds number range) (holds number new) (widened number last range order reached)
    ∙ ap (λ b. b || holds number range) (sym (ap (holds_any number) (last_apart ranges last some is) ∙ list_any-append (holds number) front (last ∷ [])))

-- a range that begins no earlier than the last one, which does not reach it, is the last of rising ranges
pub still_rising : (ranges : List NumberRange) (range : NumberRange) → AreRising ranges → All (λ r. r.low ≤ range.low) ranges →
    ((d : NumberRange) → 0 < length ranges → (get_or ranges (length ranges - 1) d).high ≤ range.high) → AreRising (ranges ++ range ∷ [])
still_rising ranges range rising before past = record {
  low = IsNonDecreasingBy-push (λ r. r.low) ranges range rising.low (λ d some. before (length ranges - 1) d (omega arith));
  high = IsNonDecreasingBy-push (λ r. r.high) ranges range rising.high past;
}
