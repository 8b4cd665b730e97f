-- One node more.
use Rattle.std.proofs.Common.{◌++◌, ◌∙◌, arith}
use Rattle.std.proofs.lemmas.Grind.{common_steps}
use Rattle.domain_cmds.specs.Texts.{felt_node_text, is_still, route_of}
use Rattle.operator_cmds.proofs.Growing.{one_text_more}
use Rattle.domain_cmds.proofs.felt.push_felt_nodes.Goals as goal

pub loop-u-preserved : goal.loop-u-preserved
loop-u-preserved c = record {
  added = one_text_more
      (λ u. felt_node_text (is_still c.args.size c.args.rests.now c.args.v u) u (route_of c.args.size c.args.now.now u c.args.v))
      c.loop-u.u c.args.out.now.items c.loop-u.out.items c.push_marked_node.new.out.items c.loop-u.invariant.added
      (c.in_ok-push_marked_node.ensures.ok
      ∙ (λ i. c.loop-u.out.items ++ felt_node_text (c.is_still-still.ensures i) c.loop-u.u (c.route_of.ensures i)));
  front = grind (arith, common_steps);
}
