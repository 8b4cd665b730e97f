-- Each link is one of the values.
use Rattle.std.proofs.Common.{◌≡◌, ◌∙◌, ap, map, sym, take_all, List}
use Rattle.std.proofs.lemmas.Simd.{map-map}
use Rattle.serde_json.specs.Data.{Data, array}
use Rattle.serde_json.specs.View.{items_of, view}
use Rattle.serde_json.proofs.Views.{view-Array}
use Rattle.router_status.specs.Objects.{link_data}
use Rattle.router_status.specs.Status.{link_view}
use Rattle.router_status.specs.declared.status.LinkStatus.{LinkStatus}
use Rattle.router_status.proofs.object.links_value.Goals as goal

pub returns : goal.returns
returns c =
    let links = c.args.links.now in
    let all : map view c.loop-link.values.items ≡ map (λ (link : LinkStatus). link_data (link_view link)) links =
    c.loop-link.invariant
    ∙ ap (λ (some : List LinkStatus). map (λ (link : LinkStatus). link_data (link_view link)) some) (take_all c.loop-link.link-index links c.loop-link-test.false) in
    view-Array c.loop-link.values ∙ ap (λ (ds : List Data). array (items_of ds)) (all ∙ sym (map-map link_data link_view links))
