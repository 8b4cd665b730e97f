-- One neighbour changed.
use Rattle.std.proofs.Common.{◌≡◌, ⊎_elim, ℕ, ◌<◌, zero, suc, List, [], ◌∷◌, length, map, slice_index_or, slice_set}
use Rattle.std.proofs.Common.{ap, sym, subst, refl, ◌∙◌, arith, get_or-set_same, get_or-set_other, length-set}
use Rattle.std.proofs.lemmas.Bool.{cases_eq}
use Rattle.std.proofs.lemmas.List.{length-map, map-set}
use Rattle.netchange_core.specs.declared.destination.Destination.{Destination}
use Rattle.netchange_core.specs.declared.neighbour.Neighbour.{Neighbour}
use Rattle.netchange_core.specs.Best.{neighbour_distance}
use Rattle.netchange_core.specs.Kept.{AreKept, AreNeighbours, IsNeighbour, view_of}
use Rattle.netchange_core.specs.OpeningView.{OpeningView}
use Rattle.netchange_core.specs.Recomputing.{AreStaleAt}
use Rattle.netchange_core.specs.World.{NeighbourView, change, neighbour_at, nobody}
use Rattle.netchange_core.proofs.Views.{view_at}

-- a change is a replacement
pub change_set : (k : ℕ) (f : NeighbourView → NeighbourView) (ns : List NeighbourView) → k < length ns →
    change k f ns ≡ slice_set ns k (f (neighbour_at ns k))
change_set k f [] h = absurd (omega arith)
change_set zero f (n ∷ ns) h = refl
change_set (suc k) f (n ∷ ns) h = ap (λ ms. n ∷ ms) (change_set k f ns (omega arith))

pub changed_at : (k : ℕ) (f : NeighbourView → NeighbourView) (ns : List NeighbourView) → k < length ns →
    neighbour_at (change k f ns) k ≡ f (neighbour_at ns k)
changed_at k f ns h = ap (λ ms. neighbour_at ms k) (change_set k f ns h) ∙ get_or-set_same ns k (f (neighbour_at ns k)) nobody h

-- the neighbours after the one in a place was replaced by one that looks as a function says
pub changed_views : (ns : List Neighbour) (k : ℕ) (n d : Neighbour) (f : NeighbourView → NeighbourView) → k < length ns →
    view_of n ≡ f (view_of (slice_index_or ns k d)) → map view_of (slice_set ns k n) ≡ change k f (map view_of ns)
changed_views ns k n d f h e =
    map-set view_of ns k n
    ∙ ap (λ m. slice_set (map view_of ns) k m) (e ∙ ap f (view_at ns k d h))
    ∙ sym (change_set k f (map view_of ns) (omega (arith, length-map ns view_of)))

-- what is made of each neighbour, where one changed
pub map_change : {X : Type 0} (g : NeighbourView → X) (k : ℕ) (f : NeighbourView → NeighbourView) (ns : List NeighbourView) →
    k < length ns → map g (change k f ns) ≡ slice_set (map g ns) k (g (neighbour_at (change k f ns) k))
map_change g k f ns h =
    ap (λ ms. map g ms) (change_set k f ns h)
    ∙ map-set g ns k (f (neighbour_at ns k))
    ∙ ap (λ n. slice_set (map g ns) k (g n)) (sym (changed_at k f ns h))

-- a change after which the neighbour gives the same as before
pub map_change_same : {X : Type 0} (g : NeighbourView → X) (k : ℕ) (f : NeighbourView → NeighbourView) (ns : List NeighbourView) →
    g (f (neighbour_at ns k)) ≡ g (neighbour_at ns k) → map g (change k f ns) ≡ map g ns
map_change_same g k f [] e = refl
map_change_same g zero f (n ∷ ns) e = ap (λ x. x ∷ map g ns) e
map_change_same g (suc k) f (n ∷ ns) e = ap (λ xs. g n ∷ xs) (map_change_same g k f ns e)

-- they stay neighbours of the domain
pub change_good : (size k : ℕ) (f : NeighbourView → NeighbourView) (ns : List NeighbourView) → k < length ns →
    AreNeighbours size ns → IsNeighbour size (f (neighbour_at ns k)) → AreNeighbours size (change k f ns)
change_good size k f ns h good here =
    subst (AreNeighbours size) (sym (change_set k f ns h)) (record {
      one_a_node = length-set ns k (f (neighbour_at ns k)) ∙ good.one_a_node;
      each = λ j d below.
          ⊎_elim (λ (same : j ≡ k).
          subst (λ i. IsNeighbour size (slice_index_or (slice_set ns k (f (neighbour_at ns k))) i d)) (sym same)
          (subst (IsNeighbour size) (sym (get_or-set_same ns k (f (neighbour_at ns k)) d h)) here))
          (λ (other : j ≡ k → ⊥).
          subst (IsNeighbour size) (sym (get_or-set_other ns k j (f (neighbour_at ns k)) d other))
          (good.each j d (omega (arith, length-set ns k (f (neighbour_at ns k)))))) (cases_eq j k);
    })

-- the distances kept are those of all but the one that changed
pub change_stale : (o : OpeningView) (k : ℕ) (f : NeighbourView → NeighbourView) (ns ms : List NeighbourView)
    (ds : List Destination) → k < length ns → ms ≡ change k f ns → AreKept o ns ds → AreStaleAt o k ms ds
change_stale o k f ns ms ds h e kept =
    subst (λ qs. AreStaleAt o k qs ds) (sym e) (record {
      others = λ v d below.
          ap (λ xs. slice_set xs k (neighbour_distance o v (neighbour_at (change k f ns) k))) (kept.distances v d below)
          ∙ sym (map_change (neighbour_distance o v) k f ns h);
    })

-- two changes that make the same of the neighbour
pub change_as : (k : ℕ) (f g : NeighbourView → NeighbourView) (ns : List NeighbourView) → k < length ns →
    f (neighbour_at ns k) ≡ g (neighbour_at ns k) → change k f ns ≡ change k g ns
change_as k f g ns h e = change_set k f ns h ∙ ap (λ n. slice_set ns k n) e ∙ sym (change_set k g ns h)
