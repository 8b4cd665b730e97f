use Rattle.std.proofs.Common.{◌-◌, ◌≤◌, List, length}
use Rattle.prefix_patterns.specs.Matching.{PrefixPattern}
use Rattle.prefix_patterns.specs.Trees.{Reached}
use Rattle.prefix_patterns.proofs.tree.walk.Given as goal

-- of each list that the root was reached with, the patterns that can still match are those for which the subtree stands
abbrev pub invariant-down : goal.invariant-down
invariant-down l = record {
  within : l.depth ≤ length l.prefix;
  some : (all : List PrefixPattern) × Reached l.nodes l.leaves l.prefix all l.start l.root;
  told : (all : List PrefixPattern) → Reached l.nodes l.leaves l.prefix all l.start l.root →
      Reached l.nodes l.leaves l.prefix all l.depth l.subtree;
}

abbrev pub decreases-down : goal.decreases-down
decreases-down l = length l.prefix - l.depth
