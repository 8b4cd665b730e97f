use Rattle.std.proofs.Common.{◌≡◌, map, take}
use Rattle.serde_json.specs.View.{view}
use Rattle.router_status.specs.Objects.{link_data}
use Rattle.router_status.specs.Status.{link_view}
use Rattle.router_status.specs.declared.status.LinkStatus.{LinkStatus}
use Rattle.router_status.proofs.object.links_value.Given as goal

abbrev pub invariant-loop-link : goal.invariant-loop-link
invariant-loop-link l = map view l.values.items ≡ map (λ (link : LinkStatus). link_data (link_view link)) (take l.link-index l.links)
