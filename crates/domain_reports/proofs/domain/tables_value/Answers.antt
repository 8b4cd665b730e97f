use Rattle.std.proofs.Common.{Global, Vec}
use Rattle.domain_reports.specs.Reports.{table_data}
use Rattle.domain_reports.specs.declared.domain.RouteReport.{RouteReport}
use Rattle.domain_reports.proofs.Listing.{all_shown, one_more_shown}
use Rattle.domain_reports.proofs.domain.tables_value.Goals as goal

pub loop-table-preserved : goal.loop-table-preserved
loop-table-preserved c =
    one_more_shown table_data (λ (table : Vec RouteReport Global). table.items) c.args.tables.now c.loop-table.table-index c.table-item.result c.loop-table.list.items
    c.push.new.self.items c.in_ok-table_value.field-0 c.loop-table-test.true c.table-item.is c.in_ok-push.ensures.items c.loop-table.invariant
    (rw c.as_slice.ensures.value at c.in_ok-table_value.ensures)

pub returns : goal.returns
returns c =
    all_shown table_data (λ (table : Vec RouteReport Global). table.items) c.args.tables.now c.loop-table.table-index c.loop-table.list c.loop-table-test.false c.loop-table.invariant
