use Rattle.domain_reports.specs.Reports.{route_data}
use Rattle.domain_reports.proofs.Listing.{all_said, one_more}
use Rattle.domain_reports.proofs.domain.table_value.Goals as goal

pub loop-route-preserved : goal.loop-route-preserved
loop-route-preserved c =
    one_more route_data c.args.table.now c.loop-route.route-index _ c.loop-route.list.items c.push.new.self.items c.in_ok-route_value.field-0
    c.loop-route-test.true c.in_ok-push.ensures.items c.loop-route.invariant c.in_ok-route_value.ensures

pub returns : goal.returns
returns c = all_said route_data c.args.table.now c.loop-route.route-index c.loop-route.list c.loop-route-test.false c.loop-route.invariant
