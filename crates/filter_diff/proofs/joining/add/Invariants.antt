use Rattle.std.proofs.Common.{◌≡◌}
use Rattle.filter_diff.proofs.joining.add.Given as goal

-- the parts are as they were
abbrev pub invariant-loop-at : goal.invariant-loop-at
invariant-loop-at l = l.parts.items ≡ l.initial.parts.items
