use Rattle.std.proofs.Common.{◌≡◌, ◌++◌, List, length}
use Rattle.prefix_patterns.specs.Matching.{PrefixPattern}
use Rattle.prefix_patterns.specs.Trees.{AreLeavesOf}
use Rattle.prefix_patterns.proofs.leaf.leaves_of.Given as goal

-- the patterns so far have leaves, and the rest follow them
abbrev pub invariant-rest : goal.invariant-rest
invariant-rest l = (done : List PrefixPattern) × (l.patterns ≡ done ++ l.rest) × AreLeavesOf l.leaves.items done

abbrev pub decreases-rest : goal.decreases-rest
decreases-rest l = length l.rest
