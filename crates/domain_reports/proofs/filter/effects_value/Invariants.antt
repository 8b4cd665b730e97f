use Rattle.std.proofs.Common.{◌≡◌, map, take}
use Rattle.serde_json.specs.View.{view}
use Rattle.domain_reports.specs.Reports.{effect_data}
use Rattle.domain_reports.specs.Views.{effect_view}
use Rattle.domain_reports.proofs.filter.effects_value.Given as goal

-- the effects so far
abbrev pub invariant-loop-effect : goal.invariant-loop-effect
invariant-loop-effect l = map view l.list.items ≡ map effect_data (map effect_view (take l.effect-index l.effects))
