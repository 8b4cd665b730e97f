use Rattle.std.proofs.Common.{take}
use Rattle.prefix_patterns.specs.Trees.{IsLeafOf}
use Rattle.prefix_patterns.proofs.leaf.Leaf.of.Given as goal

-- the patterns so far are in the leaf
abbrev pub invariant-loop-at : goal.invariant-loop-at
invariant-loop-at l = IsLeafOf l.leaf (take l.at l.part)
