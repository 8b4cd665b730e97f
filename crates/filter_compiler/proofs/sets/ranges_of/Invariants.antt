use Rattle.std.proofs.Common.{◌≡◌, map, take}
use Rattle.filter_syntax.specs.Syntax.{range_of, view_range}
use Rattle.filter_compiler.proofs.sets.ranges_of.Given as goal

-- the ranges so far
abbrev pub invariant-loop-item : goal.invariant-loop-item
invariant-loop-item l = l.ranges.items ≡ map range_of (map view_range (take l.item-index l.set))
