use Rattle.std.proofs.Common.{◌≡◌, map, take}
use Rattle.filter_diff.specs.Marking.{unmarked}
use Rattle.filter_diff.proofs.reaching.unmarked.Given as goal

-- the marks so far
abbrev pub invariant-loop-is_watched : goal.invariant-loop-is_watched
invariant-loop-is_watched l = l.marks.items ≡ map unmarked (take l.is_watched-index l.watched)
