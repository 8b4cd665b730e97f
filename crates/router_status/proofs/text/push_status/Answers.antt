-- What is told of the links is told of them as they are seen.
use Rattle.std.proofs.Common.{◌∙◌, List, [], ◌∷◌, ◌++◌, ap, flat_map, map}
use Rattle.std.proofs.lemmas.List.Folds.{flat_map-map}
use Rattle.router_status.specs.Lines.{link_text, router_text}
use Rattle.router_status.specs.Status.{link_view, status_view}
use Rattle.router_status.specs.declared.status.LinkStatus.{LinkStatus}
use Rattle.router_status.proofs.Telling.{told_line}
use Rattle.router_status.proofs.text.push_status.Goals as goal

pub returns-clause-ok : goal.returns-clause-ok
returns-clause-ok c =
    let status = c.args.status.now in
    let links = status.links.items in
    told_line c.args.out.now.items (router_text (status_view status)) (flat_map (λ (link : LinkStatus). link_text (link_view link)) links)
    (flat_map link_text (map link_view links)) c.push_router.new.out.items c.push_links.new.out.items c.push.new.self.items (10 ∷ [])
    c.in_ok-push_router.ensures.ok
    (c.in_ok-push_links.ensures.ok
    ∙ ap (λ (l : List LinkStatus). c.push_router.new.out.items ++ flat_map (λ (link : LinkStatus). link_text (link_view link)) l) c.as_slice.ensures.value)
    c.in_ok-push.ensures.items (flat_map-map link_text link_view links)
