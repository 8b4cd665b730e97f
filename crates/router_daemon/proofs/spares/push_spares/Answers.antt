-- One node more.
use Rattle.router_daemon.proofs.Sparing.{one_spare_more}
use Rattle.router_daemon.proofs.spares.push_spares.Goals as goal

pub loop-node-preserved : goal.loop-node-preserved
loop-node-preserved c =
    one_spare_more c.args.me c.args.links.now c.loop-node.node c.args.nodes.now.items c.loop-node.nodes.items c.push_spare.new.nodes.items
    c.loop-node.invariant c.in_ok-push_spare.ensures
