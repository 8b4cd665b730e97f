use Rattle.std.proofs.Common.{◌≡◌, map, take}
use Rattle.serde_json.specs.View.{view}
use Rattle.domain_reports.specs.Reports.{route_data}
use Rattle.domain_reports.proofs.domain.table_value.Given as goal

-- the routes so far
abbrev pub invariant-loop-route : goal.invariant-loop-route
invariant-loop-route l = map view l.list.items ≡ map route_data (take l.route-index l.table)
