use Rattle.std.proofs.Common.{take}
use Rattle.filter_diff.specs.Joins.{StandFor}
use Rattle.filter_diff.proofs.joining.join_once.Given as goal

-- the parts so far are joined
abbrev pub invariant-loop-part : goal.invariant-loop-part
invariant-loop-part l = StandFor l.joined.items (take l.part-index l.parts)
