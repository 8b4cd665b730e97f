use Rattle.std.proofs.Common.{◌≡◌, All, map, take}
use Rattle.filter_types.specs.Sweep.{IsOrdered, labelled, part_ranges}
use Rattle.filter_types.proofs.parts.first_shared_label.Given as goal

-- the ranges of the labels so far were gathered
abbrev pub invariant-loop-number : goal.invariant-loop-number
invariant-loop-number l = record {
  gathered : l.gathered.items ≡ labelled 0 (map part_ranges (take l.number l.parts));
  ordered : All IsOrdered l.gathered.items;
}
