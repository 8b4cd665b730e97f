use Rattle.std.proofs.Common.{◌≡◌, ◌+◌, Some, length, drop}
use Rattle.filter_verifier.specs.Facts.{all_known}
use Rattle.filter_verifier.proofs.abstract_frame.fill.Given as goal

-- the stack has the facts of the places from here on
abbrev pub invariant-loop-at : goal.invariant-loop-at
invariant-loop-at l = record {
  count : length l.stack + l.at ≡ length l.places;
  known : all_known (drop l.at l.places) ≡ Some l.stack;
}
