-- One node more.
use Rattle.domain_cmds.specs.Said.{link_report_at}
use Rattle.domain_cmds.proofs.Counting.{one_list_more}
use Rattle.domain_cmds.proofs.said.push_links_of.Goals as goal

pub loop-w-preserved : goal.loop-w-preserved
loop-w-preserved c =
    one_list_more (link_report_at c.args.plan.now c.args.origins.now c.args.u) c.loop-w.w c.args.links.now.items c.loop-w.links.items
    c.push_link.new.links.items c.loop-w.invariant c.in_ok-push_link.ensures
