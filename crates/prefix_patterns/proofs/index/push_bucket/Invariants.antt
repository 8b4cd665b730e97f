use Rattle.std.proofs.Common.{◌≡◌, ◌++◌, List}
use Rattle.prefix_patterns.specs.Index.{IsChain}
use Rattle.prefix_patterns.specs.Matching.{PrefixPattern}
use Rattle.prefix_patterns.specs.Trees.{in_bucket}
use Rattle.prefix_patterns.proofs.index.push_bucket.Given as goal

-- the patterns so far, and those of the rest of the chain
abbrev pub invariant-loop-at : goal.invariant-loop-at
invariant-loop-at l = (rest : List PrefixPattern) × IsChain l.patterns l.chains.next.items l.at rest
    × (l.part.items ++ rest ≡ l.initial.part.items ++ in_bucket l.bucket l.patterns)

abbrev pub decreases-loop-at : goal.decreases-loop-at
decreases-loop-at l = l.at
