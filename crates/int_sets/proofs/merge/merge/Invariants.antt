use Rattle.std.proofs.Common.{◌≡◌, ℕ, ◌≤◌, ◌<◌, All, length, get_or, take}
use Rattle.int_sets.specs.Holding.{NumberRange, holds_any}
use Rattle.int_sets.specs.Merged.{AreRising}
use Rattle.int_sets.proofs.merge.merge.Given as goal

-- the merged ranges are those before this turn, and none of them begins after one that is left
abbrev pub invariant-loop-range : goal.invariant-loop-range
invariant-loop-range l = record {
  rising : AreRising l.merged.items;
  before : (at : ℕ) (d : NumberRange) → l.range-index ≤ at → at < length l.range-items →
      All (λ r. r.low ≤ (get_or l.range-items at d).low) l.merged.items;
  same : (number : ℕ) → holds_any number l.merged.items ≡ holds_any number (take l.range-index l.range-items);
}
