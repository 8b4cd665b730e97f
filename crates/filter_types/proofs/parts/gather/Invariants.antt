use Rattle.std.proofs.Common.{◌≡◌, ◌++◌, All, map, take}
use Rattle.filter_types.specs.Sweep.{IsOrdered, labelled_range, written_range}
use Rattle.filter_types.proofs.parts.gather.Given as goal

-- the ranges so far were added
abbrev pub invariant-loop-range : goal.invariant-loop-range
invariant-loop-range l = record {
  added : l.gathered.items ≡ l.initial.gathered.items ++ map (labelled_range l.number) (map written_range (take l.range-index l.ranges));
  ordered : All IsOrdered l.gathered.items;
}
