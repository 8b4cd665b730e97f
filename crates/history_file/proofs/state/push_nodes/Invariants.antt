use Rattle.std.proofs.Common.{◌≡◌, ◌++◌, drop}
use Rattle.std.specs.Io.{StartsWith}
use Rattle.history_file.specs.Segments.{nodes_text}
use Rattle.history_file.proofs.state.push_nodes.Given as goal

-- the nodes so far were added, and those that are left will be
abbrev pub invariant-loop-node : goal.invariant-loop-node
invariant-loop-node l = record {
  added : l.out.items ++ nodes_text l.node (drop l.node l.uses) l.tables.neighbours ≡ l.fn.out.items ++ nodes_text 0 l.uses l.tables.neighbours;
  front : StartsWith l.out.items l.fn.out.items;
}
