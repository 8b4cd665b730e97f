use Rattle.domain_reports.specs.Reports.{link_data}
use Rattle.domain_reports.proofs.Listing.{all_said, one_more}
use Rattle.domain_reports.proofs.link.links_value.Goals as goal

pub loop-link-preserved : goal.loop-link-preserved
loop-link-preserved c =
    one_more link_data c.args.links.now c.loop-link.link-index _ c.loop-link.list.items c.push.new.self.items c.in_ok-link_value.field-0
    c.loop-link-test.true c.in_ok-push.ensures.items c.loop-link.invariant c.in_ok-link_value.ensures

pub returns : goal.returns
returns c = all_said link_data c.args.links.now c.loop-link.link-index c.loop-link.list c.loop-link-test.false c.loop-link.invariant
