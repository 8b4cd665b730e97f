use Rattle.domain_reports.specs.Reports.{filter_data}
use Rattle.domain_reports.specs.Views.{filter_view}
use Rattle.domain_reports.proofs.Listing.{all_shown, one_more_shown}
use Rattle.domain_reports.proofs.filter.filters_value.Goals as goal

pub loop-filter-preserved : goal.loop-filter-preserved
loop-filter-preserved c =
    one_more_shown filter_data filter_view c.args.filters.now c.loop-filter.filter-index c.filter-item.result c.loop-filter.list.items c.push.new.self.items
    c.in_ok-filter_value.field-0 c.loop-filter-test.true c.filter-item.is c.in_ok-push.ensures.items c.loop-filter.invariant c.in_ok-filter_value.ensures

pub returns : goal.returns
returns c =
    all_shown filter_data filter_view c.args.filters.now c.loop-filter.filter-index c.loop-filter.list c.loop-filter-test.false c.loop-filter.invariant
