use Rattle.std.proofs.Common.{◌≡◌, ◌≤◌, ◌&&◌, ◌||◌, Bool, List, get_or, length}
use Rattle.prefix_patterns.specs.Trees.{agree, index_of}
use Rattle.prefix_patterns.proofs.Marks.{is_done}
use Rattle.prefix_patterns.proofs.index.mark.Given as goal

-- the lengths so far are marked
abbrev pub invariant-loop-len : goal.invariant-loop-len
invariant-loop-len l = record {
  count : length l.marks ≡ 512;
  marked : (prefix : List Bool) (d : Bool) → length prefix ≤ 8 →
      get_or l.marks (index_of prefix) d ≡ (get_or l.initial.marks (index_of prefix) d
      || (agree prefix l.pattern.bits && is_done l.pattern.low l.len (length prefix)));
}
