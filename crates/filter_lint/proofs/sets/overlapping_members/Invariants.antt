use Rattle.std.proofs.Common.{◌≡◌}
use Rattle.filter_lint.specs.Finding.{all_of}
use Rattle.filter_lint.specs.Sets.{overlaps_by}
use Rattle.filter_lint.proofs.sets.overlapping_members.Given as goal

-- what is said so far
abbrev pub invariant-loop-at : goal.invariant-loop-at
invariant-loop-at l = l.found.items ≡ all_of (overlaps_by l.source) l.at
