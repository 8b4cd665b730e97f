-- One node more.
use Rattle.std.proofs.Common.{arith}
use Rattle.std.proofs.lemmas.Grind.{common_steps}
use Rattle.operator_cmds.specs.Looks.{node_text}
use Rattle.operator_cmds.proofs.Growing.{one_text_more}
use Rattle.operator_cmds.proofs.look.push_nodes.Goals as goal

pub loop-node-preserved : goal.loop-node-preserved
loop-node-preserved c = record {
  added = one_text_more (node_text c.args.tables.now c.args.look) c.loop-node.node c.args.out.now.items c.loop-node.out.items
      c.push_node.new.out.items c.loop-node.invariant.added c.in_ok-push_node.ensures.ok;
  front = grind (arith, common_steps);
}
