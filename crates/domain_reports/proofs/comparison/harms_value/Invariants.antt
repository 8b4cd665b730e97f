use Rattle.std.proofs.Common.{◌≡◌, map, take}
use Rattle.serde_json.specs.View.{view}
use Rattle.domain_reports.specs.Reports.{harm_data}
use Rattle.domain_reports.proofs.comparison.harms_value.Given as goal

-- the failures so far
abbrev pub invariant-loop-harm : goal.invariant-loop-harm
invariant-loop-harm l = map view l.list.items ≡ map harm_data (take l.harm-index l.harms)
