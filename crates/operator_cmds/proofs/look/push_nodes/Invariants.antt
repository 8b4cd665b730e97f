use Rattle.std.proofs.Common.{◌≡◌, ◌++◌}
use Rattle.std.specs.Io.{StartsWith}
use Rattle.operator_cmds.specs.Looks.{node_text, texts_below}
use Rattle.operator_cmds.proofs.look.push_nodes.Given as goal

-- the texts so far were added
abbrev pub invariant-loop-node : goal.invariant-loop-node
invariant-loop-node l = record {
  added : l.out.items ≡ l.fn.out.items ++ texts_below l.node (node_text l.tables l.look);
  front : StartsWith l.out.items l.fn.out.items;
}
