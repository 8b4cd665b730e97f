use Rattle.std.proofs.Common.{◌≡◌, ◌++◌, false, List, drop}
use Rattle.prefix_patterns.specs.Matching.{PrefixPattern, matches_any}
use Rattle.prefix_patterns.specs.Trees.{AreLeavesOf}
use Rattle.prefix_patterns.proofs.leaf.any_leaf_matches.Given as goal

-- none of the patterns of the leaves so far matches
abbrev pub invariant-loop-leaf : goal.invariant-loop-leaf
invariant-loop-leaf l = (patterns : List PrefixPattern) → AreLeavesOf l.leaves patterns →
    (done : List PrefixPattern) × (rest : List PrefixPattern) × (patterns ≡ done ++ rest)
    × AreLeavesOf (drop l.leaf-index l.leaves) rest × (matches_any l.prefix done ≡ false)
