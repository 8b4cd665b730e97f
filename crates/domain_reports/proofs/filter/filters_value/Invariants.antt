use Rattle.std.proofs.Common.{◌≡◌, map, take}
use Rattle.serde_json.specs.View.{view}
use Rattle.domain_reports.specs.Reports.{filter_data}
use Rattle.domain_reports.specs.Views.{filter_view}
use Rattle.domain_reports.proofs.filter.filters_value.Given as goal

-- the filters so far
abbrev pub invariant-loop-filter : goal.invariant-loop-filter
invariant-loop-filter l = map view l.list.items ≡ map filter_data (map filter_view (take l.filter-index l.filters))
