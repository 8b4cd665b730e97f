use Rattle.std.proofs.Common.{◌≡◌, map, take}
use Rattle.serde_json.specs.View.{view}
use Rattle.domain_reports.specs.Reports.{link_data}
use Rattle.domain_reports.proofs.link.links_value.Given as goal

-- the links so far
abbrev pub invariant-loop-link : goal.invariant-loop-link
invariant-loop-link l = map view l.list.items ≡ map link_data (take l.link-index l.links)
