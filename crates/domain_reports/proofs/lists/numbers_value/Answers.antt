use Rattle.domain_reports.specs.Reports.{number_data}
use Rattle.domain_reports.proofs.Listing.{all_said, one_more}
use Rattle.domain_reports.proofs.lists.numbers_value.Goals as goal

pub loop-number-preserved : goal.loop-number-preserved
loop-number-preserved c =
    one_more number_data c.args.numbers.now c.loop-number.number-index _ c.loop-number.list.items c.push.new.self.items c.from.result
    c.loop-number-test.true c.in_ok-push.ensures.items c.loop-number.invariant c.from.ensures

pub returns : goal.returns
returns c = all_said number_data c.args.numbers.now c.loop-number.number-index c.loop-number.list c.loop-number-test.false c.loop-number.invariant
