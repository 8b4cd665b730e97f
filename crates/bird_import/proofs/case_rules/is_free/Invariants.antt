use Rattle.std.specs.Prelude.{◌≡◌, ◌<◌, ◌≤◌, ℕ, Some, take}
use Rattle.bird_import.specs.Rules.{open_behind}
use Rattle.bird_import.proofs.Ranges.{IsFreeOutside}
use Rattle.bird_import.proofs.case_rules.is_free.Given as goal

abbrev pub invariant-loop-at : goal.invariant-loop-at
invariant-loop-at l = record {
  bound : l.depth ≤ l.at;
  opened : open_behind 0 (take l.at l.parts) ≡ Some l.depth;
  free : (k : ℕ) → k < l.at → IsFreeOutside l.range.low l.range.high l.parts k;
}
