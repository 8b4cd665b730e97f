use Rattle.std.proofs.Common.{take}
use Rattle.prefix_patterns.specs.Index.{AreMarks}
use Rattle.prefix_patterns.proofs.index.marks_of.Given as goal

-- the patterns so far have their marks
abbrev pub invariant-loop-pattern : goal.invariant-loop-pattern
invariant-loop-pattern l = AreMarks l.marks.items (take l.pattern-index l.patterns)
