use Rattle.std.proofs.Common.{◌≡◌, map, take}
use Rattle.filter_syntax.specs.Syntax.{pattern_of, view_set_pattern}
use Rattle.filter_compiler.proofs.sets.patterns_of.Given as goal

-- the patterns so far
abbrev pub invariant-loop-item : goal.invariant-loop-item
invariant-loop-item l = l.patterns.items ≡ map pattern_of (map view_set_pattern (take l.item-index l.set))
