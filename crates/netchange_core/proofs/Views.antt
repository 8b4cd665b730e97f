-- Neighbours and what a world has of them.
use Rattle.std.proofs.Common.{◌≡◌, ℕ, ◌+◌, ◌<◌, List, length, map, slice_index_or, slice_set, ap, sym, subst, ◌∙◌, arith, add-one}
use Rattle.std.proofs.Math.Seq.{map-set_same}
use Rattle.std.proofs.lemmas.List.{map-set, get_or-map, length-map}
use Rattle.netchange_core.specs.declared.neighbour.Neighbour.{Neighbour}
use Rattle.netchange_core.specs.Kept.{AreNeighbours, IsNeighbour, view_of}
use Rattle.netchange_core.specs.World.{NeighbourView, neighbour_at, nobody}
use Rattle.netchange_core.proofs.Mapped.{mapped, mapped_more}

-- a neighbour that looks like the one in its place
pub same_views : (ns : List Neighbour) (k : ℕ) (n d : Neighbour) → view_of n ≡ view_of (slice_index_or ns k d) →
    map view_of (slice_set ns k n) ≡ map view_of ns
same_views ns k n d e = map-set_same view_of ns k n d e

-- the view of the neighbour in a place
pub view_at : (ns : List Neighbour) (k : ℕ) (d : Neighbour) → k < length ns →
    view_of (slice_index_or ns k d) ≡ neighbour_at (map view_of ns) k
view_at ns k d h = sym (get_or-map view_of ns k d nobody h)

-- each of them is a neighbour of the domain
pub good_at : (size : ℕ) (ns : List Neighbour) (k : ℕ) (d : Neighbour) → AreNeighbours size (map view_of ns) →
    k < length ns → IsNeighbour size (view_of (slice_index_or ns k d))
good_at size ns k d good h =
    subst (IsNeighbour size) (sym (view_at ns k d h)) (good.each k nobody (omega (arith, length-map ns view_of)))

-- one more of them changed as a function says
pub told_more : (f : NeighbourView → NeighbourView) (ms ns : List Neighbour) (k : ℕ) (n d : Neighbour) → k < length ms →
    map view_of ns ≡ mapped f k (map view_of ms) → slice_index_or ns k d ≡ slice_index_or ms k d →
    view_of n ≡ f (view_of (slice_index_or ns k d)) →
    map view_of (slice_set ns k n) ≡ mapped f (k + 1) (map view_of ms)
told_more f ms ns k n d h told rest e =
    map-set view_of ns k n
    ∙ ap (λ xs. slice_set xs k (view_of n)) told
    ∙ ap (λ x. slice_set (mapped f k (map view_of ms)) k x)
    (e ∙ ap (λ m. f (view_of m)) rest ∙ ap f (view_at ms k d h))
    ∙ mapped_more f k (map view_of ms) nobody (omega (arith, length-map ms view_of))
    ∙ ap (λ j. mapped f j (map view_of ms)) (sym (add-one k))
