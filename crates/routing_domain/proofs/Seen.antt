-- What a router sees of its neighbours, after one of them changed and messages were queued: all but what the change speaks of.
use Rattle.std.proofs.Common.{◌≡◌, ⊎_elim, ℕ, ◌<◌, List, length, map, slice_index_or, sym, ap, ◌∙◌}
use Rattle.std.proofs.lemmas.Bool.{cases_lt}
use Rattle.std.proofs.lemmas.List.{get_or-map, get_or_past, length-map}
use Rattle.std.proofs.Common.{arith}
use Rattle.netchange_core.specs.declared.message.Message.{Message}
use Rattle.netchange_core.specs.Best.{distance}
use Rattle.netchange_core.specs.Next.{recomputed}
use Rattle.netchange_core.specs.Room.{queueing}
use Rattle.netchange_core.specs.World.{NeighbourView, World, change, changed, neighbour_at, nobody}
use Rattle.netchange_core.proofs.Change.{map_change_same}
use Rattle.netchange_core.proofs.Queued.{map_told}
use Rattle.routing_domain.proofs.Recomputed.{changed_other}

seen : {A : Type 0} (g : NeighbourView → A) (ns : List NeighbourView) (k : ℕ) →
    g (neighbour_at ns k) ≡ slice_index_or (map g ns) k (g nobody)
seen g ns k =
    ⊎_elim (λ near. sym (get_or-map g ns k nobody (g nobody) near))
    (λ past. ap g (get_or_past ns k nobody past) ∙ sym (get_or_past (map g ns) k (g nobody) (omega (arith, past, length-map ns g))))
    (cases_lt k (length ns))

-- where all neighbours look the same, each does
pub seen_same : {A : Type 0} (g : NeighbourView → A) (ns ms : List NeighbourView) (k : ℕ) → map g ms ≡ map g ns →
    g (neighbour_at ms k) ≡ g (neighbour_at ns k)
seen_same g ns ms k e = seen g ms k ∙ ap (λ xs. slice_index_or xs k (g nobody)) e ∙ sym (seen g ns k)

-- after a change of one neighbour that the look does not see
pub changed_seen : {A : Type 0} (g : NeighbourView → A) (w : World) (k : ℕ) (f : NeighbourView → NeighbourView) (x : ℕ) →
    g (f (neighbour_at w.neighbours k)) ≡ g (neighbour_at w.neighbours k) →
    g (neighbour_at (changed w k f).neighbours x) ≡ g (neighbour_at w.neighbours x)
changed_seen g w k f x same = seen_same g w.neighbours (change k f w.neighbours) x (map_change_same g k f w.neighbours same)

-- after messages were queued
pub told_seen : {A : Type 0} (g : NeighbourView → A) (w : World) (k : ℕ) (f : NeighbourView → NeighbourView) (x : ℕ) →
    ((n : NeighbourView) (ms : List Message) → g (queueing ms n) ≡ g n) →
    g (neighbour_at (recomputed w (changed w k f)).world.neighbours x) ≡ g (neighbour_at (change k f w.neighbours) x)
told_seen g w k f x unseen =
    seen_same g (change k f w.neighbours) (recomputed w (changed w k f)).world.neighbours x
    (map_told g w.opening (distance w) (distance (changed w k f)) unseen w.opening.size (change k f w.neighbours))

-- after both
pub recomputed_seen : {A : Type 0} (g : NeighbourView → A) (w : World) (k : ℕ) (f : NeighbourView → NeighbourView) (x : ℕ) →
    ((n : NeighbourView) (ms : List Message) → g (queueing ms n) ≡ g n) →
    g (f (neighbour_at w.neighbours k)) ≡ g (neighbour_at w.neighbours k) →
    g (neighbour_at (recomputed w (changed w k f)).world.neighbours x) ≡ g (neighbour_at w.neighbours x)
recomputed_seen g w k f x unseen same = told_seen g w k f x unseen ∙ changed_seen g w k f x same

-- and at another neighbour, whatever the change is
pub recomputed_other : {A : Type 0} (g : NeighbourView → A) (w : World) (k : ℕ) (f : NeighbourView → NeighbourView) (x : ℕ) →
    ((n : NeighbourView) (ms : List Message) → g (queueing ms n) ≡ g n) → k < length w.neighbours → (x ≡ k → ⊥) →
    g (neighbour_at (recomputed w (changed w k f)).world.neighbours x) ≡ g (neighbour_at w.neighbours x)
recomputed_other g w k f x unseen near other = told_seen g w k f x unseen ∙ ap g (changed_other k x f w.neighbours near other)
