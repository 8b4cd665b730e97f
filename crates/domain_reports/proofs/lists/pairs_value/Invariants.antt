use Rattle.std.proofs.Common.{◌≡◌, map, take}
use Rattle.serde_json.specs.View.{view}
use Rattle.domain_reports.specs.Reports.{pair_data}
use Rattle.domain_reports.proofs.lists.pairs_value.Given as goal

-- the pairs so far
abbrev pub invariant-loop-pair : goal.invariant-loop-pair
invariant-loop-pair l = map view l.list.items ≡ map (λ pair. pair_data pair.0 pair.1) (take l.pair-index l.pairs)
