use Rattle.std.proofs.Common.{◌≡◌, map, take}
use Rattle.serde_json.specs.View.{view}
use Rattle.domain_reports.specs.Reports.{text_data}
use Rattle.domain_reports.proofs.lists.texts_value.Given as goal

-- the texts so far
abbrev pub invariant-loop-text : goal.invariant-loop-text
invariant-loop-text l = map view l.list.items ≡ map text_data (map (λ text. text.items) (take l.text-index l.texts))
