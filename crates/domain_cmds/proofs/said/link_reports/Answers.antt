-- One node more.
use Rattle.std.proofs.Common.{[]}
use Rattle.domain_cmds.specs.Said.{link_reports_of}
use Rattle.domain_cmds.proofs.Counting.{one_list_more}
use Rattle.domain_cmds.proofs.said.link_reports.Goals as goal

pub loop-u-preserved : goal.loop-u-preserved
loop-u-preserved c =
    one_list_more (link_reports_of c.args.plan.now c.args.origins.now) c.loop-u.u [] c.loop-u.links.items c.push_links_of.new.links.items
    c.loop-u.invariant c.in_ok-push_links_of.ensures
