-- One link more is filled.
use Rattle.std.proofs.Common.{◌≡◌, ◌+◌, ◌<◌, ◌++◌, List, ap, drop, length, map, slice_index_or, slice_set, subst, sym, take}
use Rattle.std.proofs.lemmas.List.Edits.{map_over_more}
use Rattle.router_status.specs.Status.{filled}
use Rattle.router_status.specs.declared.status.LinkStatus.{LinkStatus}
use Rattle.router_status.proofs.Filling.{seen_filled}
use Rattle.router_status.proofs.status.fill_links.Goals as goal

pub loop-link-preserved : goal.loop-link-preserved
loop-link-preserved c =
    let w = c.args.tables.now in
    let xs = c.args.links.now.items in
    let ys = c.loop-link.link-items in
    let i = c.loop-link.link-index in
    let x = slice_index_or ys i c.link-item.result in
    let inside : i < length xs = subst (λ (l : List LinkStatus). i < length l) c.deref_mut-link-items.ensures.value c.loop-link-test.true in
    let read : x ≡ slice_index_or ys i x = ap (λ (y : LinkStatus). slice_index_or ys i y) c.link-item.is in
    let more : slice_set ys i (filled w x) ≡ map (filled w) (take (i + 1) xs) ++ drop (i + 1) xs =
    map_over_more (filled w) xs ys i x inside c.loop-link.invariant.raw read in
    let raw = subst (λ (y : LinkStatus). slice_set ys i y ≡ map (filled w) (take (i + 1) xs) ++ drop (i + 1) xs) (sym c.in_ok-fill_link.ensures) more in
    record { raw = raw; seen = seen_filled w xs _ (i + 1) raw }
