use Rattle.filter_diff.specs.Joins.{StandFor}
use Rattle.filter_diff.proofs.joining.join_all.Given as goal

-- the parts stand for those that were found
abbrev pub invariant-loop-round : goal.invariant-loop-round
invariant-loop-round l = StandFor l.found.items l.initial.found.items
