-- Links that are told what the tables say of them, as they are seen.
use Rattle.std.proofs.Common.{◌≡◌, ◌∙◌, ℕ, List, ◌++◌, ap, drop, map, sym, take}
use Rattle.std.proofs.lemmas.List.{map-append}
use Rattle.std.proofs.lemmas.Simd.{map-map}
use Rattle.netchange_core.specs.World.{World}
use Rattle.router_status.specs.Status.{LinkView, filled, link_view, with_tables}
use Rattle.router_status.specs.declared.status.LinkStatus.{LinkStatus}

pub seen_filled : (w : World) (xs ys : List LinkStatus) (i : ℕ) → ys ≡ map (filled w) (take i xs) ++ drop i xs
    → map link_view ys ≡ map (with_tables w) (map link_view (take i xs)) ++ map link_view (drop i xs)
seen_filled w xs ys i is =
    ap (λ (l : List LinkStatus). map link_view l) is
    ∙ map-append link_view (map (filled w) (take i xs)) (drop i xs)
    ∙ ap (λ (l : List LinkView). l ++ map link_view (drop i xs))
    (map-map link_view (filled w) (take i xs) ∙ sym (map-map (with_tables w) link_view (take i xs)))
