-- Messages put into the queues change nothing else.
use Rattle.std.proofs.Common.{◌≡◌, ℕ, ◌+◌, ◌<◌, zero, suc, cond, nat_eq, List, [], ◌∷◌, ◌++◌, length}
use Rattle.std.proofs.Common.{map, slice_index_or, ap, sym, subst, refl, ◌∙◌, arith, add-one}
use Rattle.std.proofs.lemmas.Bool.{cond_both}
use Rattle.std.proofs.lemmas.List.{get_or-map, length-map}
use Rattle.netchange_core.specs.declared.message.Message.{Message}
use Rattle.netchange_core.specs.Best.{neighbour_distance}
use Rattle.netchange_core.specs.Kept.{AreNeighbours, IsNeighbour}
use Rattle.netchange_core.specs.Next.{count_changes, message_of, tell, tell_changes}
use Rattle.netchange_core.specs.OpeningView.{OpeningView}
use Rattle.netchange_core.specs.Room.{queueing}
use Rattle.netchange_core.specs.Recomputing.{told_if_differs}
use Rattle.netchange_core.specs.World.{NeighbourView, is_up, neighbour_at, nobody}

-- what a function doesn't see where it doesn't see the queue
tell_unseen : {A : Type 0} (g : NeighbourView → A) (o : OpeningView) (v d : ℕ) →
    ((n : NeighbourView) (m : List Message) → g (queueing m n) ≡ g n) → (n : NeighbourView) → g (tell o v d n) ≡ g n
tell_unseen g o v d unseen n =
    cond_both (is_up n) (queueing (message_of o n.exports v d ∷ []) n) n (λ m. g m ≡ g n)
    (λ _. unseen n (message_of o n.exports v d ∷ [])) (λ _. refl)

pub map_tell : {A : Type 0} (g : NeighbourView → A) (o : OpeningView) (v d : ℕ) →
    ((n : NeighbourView) (m : List Message) → g (queueing m n) ≡ g n) → (ns : List NeighbourView) →
    map g (map (tell o v d) ns) ≡ map g ns
map_tell g o v d unseen [] = refl
map_tell g o v d unseen (n ∷ ns) = λ i. tell_unseen g o v d unseen n i ∷ map_tell g o v d unseen ns i

-- what each round of messages leaves, all of them leave
pub changes_leave : (P : List NeighbourView → Type 0) (o : OpeningView) (old new : ℕ → ℕ) (n : ℕ) (ns : List NeighbourView) →
    ((v d : ℕ) (ms : List NeighbourView) → P ms → P (map (tell o v d) ms)) → P ns → P (tell_changes o old new n ns)
changes_leave P o old new zero ns step p = p
changes_leave P o old new (suc n) ns step p =
    let rest : P (tell_changes o old new n ns) = changes_leave P o old new n ns step p in
    cond_both (nat_eq (old n) (new n)) (tell_changes o old new n ns) (map (tell o n (new n)) (tell_changes o old new n ns)) P
    (λ _. rest) (λ _. step n (new n) (tell_changes o old new n ns) rest)

pub map_told : {A : Type 0} (g : NeighbourView → A) (o : OpeningView) (old new : ℕ → ℕ) →
    ((n : NeighbourView) (m : List Message) → g (queueing m n) ≡ g n) → (v : ℕ) (ns : List NeighbourView) →
    map g (tell_changes o old new v ns) ≡ map g ns
map_told g o old new unseen v ns =
    changes_leave (λ ms. map g ms ≡ map g ns) o old new v ns (λ u d ms e. map_tell g o u d unseen ms ∙ e) refl

queued_good : (o : OpeningView) (size v d : ℕ) (n : NeighbourView) → IsNeighbour size n → IsNeighbour size (tell o v d n)
queued_good o size v d n p =
    cond_both (is_up n) (record n { queue = n.queue ++ message_of o n.exports v d ∷ [] }) n (IsNeighbour size)
    (λ _. record { one_a_node = p.one_a_node; reachable = p.reachable; imports = p.imports; exports = p.exports }) (λ _. p)

pub map_told_if_differs : {A : Type 0} (g : NeighbourView → A) (o : OpeningView) (v a b : ℕ) →
    ((n : NeighbourView) (m : List Message) → g (queueing m n) ≡ g n) → (ns : List NeighbourView) →
    map g (told_if_differs o v a b ns) ≡ map g ns
map_told_if_differs g o v a b unseen ns =
    cond_both (nat_eq a b) ns (map (tell o v b) ns) (λ ms. map g ms ≡ map g ns) (λ _. refl) (λ _. map_tell g o v b unseen ns)

-- what all messages leave
pub tell_good : (o : OpeningView) (size v d : ℕ) (ns : List NeighbourView) → AreNeighbours size ns →
    AreNeighbours size (map (tell o v d) ns)
tell_good o size v d ns good = record {
  one_a_node = length-map ns (tell o v d) ∙ good.one_a_node;
  each = λ k e h.
      let short : k < length ns = omega (arith, length-map ns (tell o v d)) in
      subst (IsNeighbour size) (sym (get_or-map (tell o v d) ns k nobody e short))
      (queued_good o size v d (neighbour_at ns k) (good.each k nobody short));
}

pub changes_good : (o : OpeningView) (size : ℕ) (old new : ℕ → ℕ) (n : ℕ) (ns : List NeighbourView) → AreNeighbours size ns →
    AreNeighbours size (tell_changes o old new n ns)
changes_good o size old new n ns good =
    changes_leave (AreNeighbours size) o old new n ns (λ v d ms p. tell_good o size v d ms p) good

pub changes_distances : (o : OpeningView) (u : ℕ) (old new : ℕ → ℕ) (n : ℕ) (ns : List NeighbourView) →
    map (neighbour_distance o u) (tell_changes o old new n ns) ≡ map (neighbour_distance o u) ns
changes_distances o u old new n ns = map_told (neighbour_distance o u) o old new (λ _ _. refl) n ns

-- the distance of one neighbour
pub changes_distance : (o : OpeningView) (u k : ℕ) (old new : ℕ → ℕ) (n : ℕ) (ns : List NeighbourView) → k < length ns →
    neighbour_distance o u (neighbour_at (tell_changes o old new n ns) k) ≡ neighbour_distance o u (neighbour_at ns k)
changes_distance o u k old new n ns h =
    let long : k < length (tell_changes o old new n ns) = changes_leave (λ ms. k < length ms) o old new n ns
    (λ v d ms e. omega (arith, length-map ms (tell o v d))) h in
    sym (get_or-map (neighbour_distance o u) (tell_changes o old new n ns) k nobody 0 long)
    ∙ ap (λ xs. slice_index_or xs k 0) (changes_distances o u old new n ns)
    ∙ get_or-map (neighbour_distance o u) ns k nobody 0 h

-- one node more
pub changes_more : (o : OpeningView) (old new : ℕ → ℕ) (n : ℕ) (ns : List NeighbourView) →
    tell_changes o old new (n + 1) ns ≡ told_if_differs o n (old n) (new n) (tell_changes o old new n ns)
changes_more o old new n ns = ap (λ m. tell_changes o old new m ns) (add-one n)

pub count_more : (old new : ℕ → ℕ) (n : ℕ) →
    count_changes old new (n + 1) ≡ cond (nat_eq (old n) (new n)) (count_changes old new n) (count_changes old new n + 1)
count_more old new n = ap (λ m. count_changes old new m) (add-one n)

-- distances that are the same below a number tell the same
pub changes_same : (o : OpeningView) (old older new : ℕ → ℕ) (n : ℕ) (ns : List NeighbourView) →
    ((v : ℕ) → v < n → old v ≡ older v) → tell_changes o old new n ns ≡ tell_changes o older new n ns
changes_same o old older new zero ns e = refl
changes_same o old older new (suc n) ns e =
    let rest = changes_same o old older new n ns (λ v h. e v (omega arith)) in
    λ i. cond (nat_eq (e n (omega arith) i) (new n)) (rest i) (map (tell o n (new n)) (rest i))

pub count_same : (old older new : ℕ → ℕ) (n : ℕ) → ((v : ℕ) → v < n → old v ≡ older v) →
    count_changes old new n ≡ count_changes older new n
count_same old older new zero e = refl
count_same old older new (suc n) e =
    let rest = count_same old older new n (λ v h. e v (omega arith)) in
    λ i. cond (nat_eq (e n (omega arith) i) (new n)) (rest i) (rest i + 1)
