-- One node more.
use Rattle.std.proofs.Common.{sym, append-nil}
use Rattle.operator_cmds.proofs.Growing.{one_text_more}
use Rattle.operator_cmds.specs.Looks.{texts_below}
use Rattle.domain_files.specs.PlanTexts.{peer_lines}
use Rattle.domain_files.proofs.digest.push_peers.Goals as goal

pub loop-w-init : goal.loop-w-init
unfolding texts_below
loop-w-init c = sym (append-nil c.args.out.now.items)

pub loop-w-preserved : goal.loop-w-preserved
loop-w-preserved c =
    one_text_more (peer_lines c.args.plan.now c.args.u) c.loop-w.w c.args.out.now.items c.loop-w.out.items c.push_peer.new.out.items
    c.loop-w.invariant c.in_ok-push_peer.ensures
