use Rattle.domain_reports.specs.Reports.{harm_data}
use Rattle.domain_reports.proofs.Listing.{all_said, one_more}
use Rattle.domain_reports.proofs.comparison.harms_value.Goals as goal

pub loop-harm-preserved : goal.loop-harm-preserved
loop-harm-preserved c =
    one_more harm_data c.args.harms.now c.loop-harm.harm-index _ c.loop-harm.list.items c.push.new.self.items c.in_ok-harm_value.field-0
    c.loop-harm-test.true c.in_ok-push.ensures.items c.loop-harm.invariant c.in_ok-harm_value.ensures

pub returns : goal.returns
returns c = all_said harm_data c.args.harms.now c.loop-harm.harm-index c.loop-harm.list c.loop-harm-test.false c.loop-harm.invariant
