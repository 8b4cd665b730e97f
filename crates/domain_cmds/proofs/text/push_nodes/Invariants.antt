use Rattle.std.proofs.Common.{◌≡◌, ◌++◌}
use Rattle.std.specs.Io.{StartsWith}
use Rattle.operator_cmds.specs.Looks.{texts_below}
use Rattle.domain_cmds.specs.Texts.{node_text, route_in}
use Rattle.domain_cmds.proofs.text.push_nodes.Given as goal

-- the texts so far were added
abbrev pub invariant-loop-u : goal.invariant-loop-u
invariant-loop-u l = record {
  added : l.out.items ≡ l.fn.out.items ++ texts_below l.u (λ u. node_text u (route_in l.plan.size l.routes u));
  front : StartsWith l.out.items l.fn.out.items;
}
