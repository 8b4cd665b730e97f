use Rattle.int_sets.proofs.Searching.{IsLeft}
use Rattle.int_sets.proofs.search.search.Given as goal

-- what is left to be searched
abbrev pub invariant-loop-size : goal.invariant-loop-size
invariant-loop-size l = IsLeft l.number l.base l.size l.ranges

abbrev pub decreases-loop-size : goal.decreases-loop-size
decreases-loop-size l = l.size
