-- One node more.
use Rattle.std.proofs.Common.{[]}
use Rattle.domain_cmds.proofs.Counting.{one_list_more}
use Rattle.domain_files.specs.Nodes.{neighbour_at}
use Rattle.domain_files.proofs.node.neighbours_of.Goals as goal

pub loop-w-preserved : goal.loop-w-preserved
loop-w-preserved c =
    one_list_more (neighbour_at c.args.plan.now c.args.me) c.loop-w.w [] c.loop-w.nodes.items c.push_neighbour.new.nodes.items c.loop-w.invariant
    c.in_ok-push_neighbour.ensures
