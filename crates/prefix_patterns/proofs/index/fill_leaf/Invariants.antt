use Rattle.std.proofs.Common.{◌≡◌, ◌++◌, List, length}
use Rattle.prefix_patterns.specs.Index.{IsChain}
use Rattle.prefix_patterns.specs.Matching.{PrefixPattern}
use Rattle.prefix_patterns.specs.Trees.{IsLeafOf, in_bucket}
use Rattle.prefix_patterns.proofs.index.fill_leaf.Given as goal

-- the patterns so far are in the leaf, and those of the rest of the chain are left
abbrev pub invariant-loop-at : goal.invariant-loop-at
invariant-loop-at l = (done : List PrefixPattern) × (rest : List PrefixPattern) × IsChain l.patterns l.chains.next.items l.at rest
    × (done ++ rest ≡ in_bucket l.bucket l.patterns) × (length done ≡ l.count) × IsLeafOf l.leaf done

abbrev pub decreases-loop-at : goal.decreases-loop-at
decreases-loop-at l = l.at
