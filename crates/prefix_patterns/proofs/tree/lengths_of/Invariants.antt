use Rattle.std.proofs.Common.{take}
use Rattle.prefix_patterns.specs.Trees.{IsUnion, IsUnionOfEnds}
use Rattle.prefix_patterns.proofs.tree.lengths_of.Given as goal

-- the patterns so far
abbrev pub invariant-loop-pattern : goal.invariant-loop-pattern
invariant-loop-pattern l = record {
  own : IsUnionOfEnds l.depth l.own (take l.pattern-index l.part);
  below : IsUnion l.below (take l.pattern-index l.part);
}
