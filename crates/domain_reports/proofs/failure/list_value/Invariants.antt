use Rattle.std.proofs.Common.{◌≡◌, map, take}
use Rattle.serde_json.specs.View.{view}
use Rattle.domain_reports.specs.Reports.{failure_data}
use Rattle.domain_reports.proofs.failure.list_value.Given as goal

-- the failures so far
abbrev pub invariant-loop-failure : goal.invariant-loop-failure
invariant-loop-failure l = map view l.list.items ≡ map failure_data (take l.failure-index l.failures)
