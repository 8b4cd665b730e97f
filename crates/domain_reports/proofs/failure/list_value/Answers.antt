use Rattle.domain_reports.specs.Reports.{failure_data}
use Rattle.domain_reports.proofs.Listing.{all_said, one_more}
use Rattle.domain_reports.proofs.failure.list_value.Goals as goal

pub loop-failure-preserved : goal.loop-failure-preserved
loop-failure-preserved c =
    one_more failure_data c.args.failures.now c.loop-failure.failure-index _ c.loop-failure.list.items c.push.new.self.items c.in_ok-failure_value.field-0
    c.loop-failure-test.true c.in_ok-push.ensures.items c.loop-failure.invariant c.in_ok-failure_value.ensures

pub returns : goal.returns
returns c = all_said failure_data c.args.failures.now c.loop-failure.failure-index c.loop-failure.list c.loop-failure-test.false c.loop-failure.invariant
