use Rattle.std.proofs.Common.{◌≡◌, map, take}
use Rattle.serde_json.specs.View.{view}
use Rattle.domain_reports.specs.Reports.{table_data}
use Rattle.domain_reports.proofs.domain.tables_value.Given as goal

-- the tables so far
abbrev pub invariant-loop-table : goal.invariant-loop-table
invariant-loop-table l = map view l.list.items ≡ map table_data (map (λ table. table.items) (take l.table-index l.tables))
