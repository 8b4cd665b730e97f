use Rattle.std.proofs.Common.{◌-◌, ◌+◌, ◌<◌, ◌≤◌}
use Rattle.filter_types.specs.Sweep.{AreAllApartBefore}
use Rattle.filter_types.proofs.labels.count_apart.Given as goal

-- labels before the lower count share no number, and one more than the higher count do
abbrev pub invariant-loop-low : goal.invariant-loop-low
invariant-loop-low l = record {
  order : l.low ≤ l.high;
  limit : l.high ≤ l.labels;
  apart : AreAllApartBefore l.low l.sorted;
  most : l.high < l.labels → AreAllApartBefore (l.high + 1) l.sorted → ⊥;
}

abbrev pub decreases-loop-low : goal.decreases-loop-low
decreases-loop-low l = l.high - l.low
