use Rattle.std.proofs.Common.{◌≡◌, ◌++◌}
use Rattle.std.specs.Io.{StartsWith}
use Rattle.operator_cmds.specs.Looks.{texts_below}
use Rattle.domain_cmds.specs.Texts.{felt_node_text, is_still, route_of}
use Rattle.domain_cmds.proofs.felt.push_felt_nodes.Given as goal

-- the texts so far were added
abbrev pub invariant-loop-u : goal.invariant-loop-u
invariant-loop-u l = record {
  added : l.out.items
      ≡ l.fn.out.items ++ texts_below l.u (λ u. felt_node_text (is_still l.size l.rests l.v u) u (route_of l.size l.now u l.v));
  front : StartsWith l.out.items l.fn.out.items;
}
