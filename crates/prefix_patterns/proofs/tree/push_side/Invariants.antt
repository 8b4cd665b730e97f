use Rattle.std.proofs.Common.{◌≡◌, ◌++◌, ◌-◌, ◌<◌, take, drop, vec_len}
use Rattle.prefix_patterns.specs.Bits.{address_length}
use Rattle.prefix_patterns.specs.Trees.{side}
use Rattle.prefix_patterns.proofs.tree.push_side.Given as goal

-- those of the patterns so far
abbrev pub invariant-loop-at : goal.invariant-loop-at
invariant-loop-at l = record {
  items : l.part.items ≡ l.initial.part.items ++ side l.bit l.depth (take (l.at - l.from) (drop l.from l.initial.part.items));
  shallow : vec_len l.initial.part < vec_len l.part → l.depth < address_length;
}
