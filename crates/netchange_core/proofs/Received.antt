-- One neighbour's distance from one node changed.
use Rattle.std.specs.Int.{from_bool}
use Rattle.std.proofs.Common.{◌≡◌, ℕ, ◌+◌, ◌<◌, ◌≤◌, zero, suc, Bool, true, false, cond, not, nat_eq}
use Rattle.std.proofs.Common.{nat_lt, Some, List, length, map, slice_index_or, slice_set, ap, sym}
use Rattle.std.proofs.Common.{subst, refl, ◌∙◌, ⊎_elim, arith, eq-eqb, length-set, le-ltb}
use Rattle.std.proofs.lemmas.Bool.{cases_eq, cond_both, lt-leb}
use Rattle.netchange_core.specs.declared.best_route.BestRoute.{BestRoute}
use Rattle.netchange_core.specs.declared.destination.Destination.{Destination}
use Rattle.netchange_core.specs.declared.reply.EventRefusal.TheVariants as refusal
use Rattle.netchange_core.specs.declared.reply.Reply.TheVariants as reply
use Rattle.netchange_core.specs.Best.{best_by, neighbour_distance}
use Rattle.netchange_core.specs.Kept.{AreKept, AreNeighbours, IsDestination, distance_by}
use Rattle.netchange_core.specs.Next.{advertising, answered, count_changes, receive, recomputed, refused, tell, tell_changes}
use Rattle.netchange_core.specs.FilteredDistance.{filtered_distance}
use Rattle.netchange_core.specs.OpeningView.{OpeningView}
use Rattle.netchange_core.specs.Recomputing.{told_if_differs}
use Rattle.netchange_core.specs.World.{NeighbourView, change, changed, is_up, neighbour_at, nobody}
use Rattle.netchange_core.proofs.Change.{change_good, changed_at, map_change, map_change_same}
use Rattle.netchange_core.proofs.Good.{advertising_distance, advertising_good, advertising_here}
use Rattle.netchange_core.proofs.Queued.{map_told_if_differs, tell_good}
use Rattle.netchange_core.proofs.Replaced.{set_each}
use Rattle.netchange_core.proofs.Worlds.{kept_is, world}

-- where nothing changed nothing is told
none_told : (o : OpeningView) (old new : ℕ → ℕ) (n : ℕ) (ns : List NeighbourView) → ((u : ℕ) → u < n → old u ≡ new u) →
    tell_changes o old new n ns ≡ ns
none_told o old new zero ns e = refl
none_told o old new (suc n) ns e =
    ap (λ b. cond b (tell_changes o old new n ns) (map (tell o n (new n)) (tell_changes o old new n ns)))
    (eq-eqb (old n) (new n) (e n (omega arith)))
    ∙ none_told o old new n ns (λ u h. e u (omega arith))

none_counted : (old new : ℕ → ℕ) (n : ℕ) → ((u : ℕ) → u < n → old u ≡ new u) → count_changes old new n ≡ 0
none_counted old new zero e = refl
none_counted old new (suc n) e =
    ap (λ b. cond b (count_changes old new n) (count_changes old new n + 1)) (eq-eqb (old n) (new n) (e n (omega arith)))
    ∙ none_counted old new n (λ u h. e u (omega arith))

-- a change after which the neighbour is as far from each node as before
pub recomputed_same : (o : OpeningView) (sessions k : ℕ) (f : NeighbourView → NeighbourView) (ns : List NeighbourView) →
    ((v : ℕ) → v < o.size → neighbour_distance o v (f (neighbour_at ns k)) ≡ neighbour_distance o v (neighbour_at ns k)) →
    recomputed (world o sessions ns) (changed (world o sessions ns) k f) ≡ answered (world o sessions (change k f ns)) (reply.Done 0)
recomputed_same o sessions k f ns same =
    let ms = change k f ns in
    let e = λ (v : ℕ) (h : v < o.size).
    ap (λ xs. (best_by o v xs).dist) (sym (map_change_same (neighbour_distance o v) k f ns (same v h))) in
    let told = none_told o (distance_by o ns) (distance_by o ms) o.size ms e in
    let counted = none_counted (distance_by o ns) (distance_by o ms) o.size e in
    λ i. answered (world o sessions (told i)) (reply.Done (counted i))

-- where one distance may have changed it alone is told
last_told : (o : OpeningView) (old new : ℕ → ℕ) (n : ℕ) (ns : List NeighbourView) →
    ((u : ℕ) → u < n → old u ≡ new u) → tell_changes o old new (suc n) ns ≡ told_if_differs o n (old n) (new n) ns
last_told o old new n ns e =
    let before = none_told o old new n ns e in
    λ i. cond (nat_eq (old n) (new n)) (before i) (map (tell o n (new n)) (before i))

last_counted : (old new : ℕ → ℕ) (n : ℕ) → ((u : ℕ) → u < n → old u ≡ new u) →
    count_changes old new (suc n) ≡ cond (nat_eq (old n) (new n)) 0 1
last_counted old new n e =
    let before = none_counted old new n e in
    λ i. cond (nat_eq (old n) (new n)) (before i) (before i + 1)

one_told : (o : OpeningView) (old new : ℕ → ℕ) (v n : ℕ) (ns : List NeighbourView) → v < n →
    ((u : ℕ) → u < n → (u ≡ v → ⊥) → old u ≡ new u) → tell_changes o old new n ns ≡ told_if_differs o v (old v) (new v) ns
one_told o old new v zero ns h e = absurd (omega arith)
one_told o old new v (suc n) ns h e =
    ⊎_elim
    (λ (same : n ≡ v).
    last_told o old new n ns (λ u k. e u (omega arith) (λ (f : u ≡ v). omega arith))
    ∙ ap (λ m. told_if_differs o m (old m) (new m) ns) same)
    (λ (other : n ≡ v → ⊥).
    ap (λ b. cond b (tell_changes o old new n ns) (map (tell o n (new n)) (tell_changes o old new n ns)))
    (eq-eqb (old n) (new n) (e n (omega arith) other))
    ∙ one_told o old new v n ns (omega arith) (λ u k. e u (omega arith))) (cases_eq n v)

one_counted : (old new : ℕ → ℕ) (v n : ℕ) → v < n → ((u : ℕ) → u < n → (u ≡ v → ⊥) → old u ≡ new u) →
    count_changes old new n ≡ cond (nat_eq (old v) (new v)) 0 1
one_counted old new v zero h e = absurd (omega arith)
one_counted old new v (suc n) h e =
    ⊎_elim
    (λ (same : n ≡ v).
    last_counted old new n (λ u k. e u (omega arith) (λ (f : u ≡ v). omega arith))
    ∙ ap (λ m. cond (nat_eq (old m) (new m)) 0 1) same)
    (λ (other : n ≡ v → ⊥).
    ap (λ b. cond b (count_changes old new n) (count_changes old new n + 1))
    (eq-eqb (old n) (new n) (e n (omega arith) other))
    ∙ one_counted old new v n (omega arith) (λ u k. e u (omega arith))) (cases_eq n v)

byte_is : (same : Bool) → from_bool (not same) ≡ cond same 0 1
byte_is true = refl
byte_is false = refl

told_distances : (o : OpeningView) (u v a b : ℕ) (ns : List NeighbourView) →
    map (neighbour_distance o u) (told_if_differs o v a b ns) ≡ map (neighbour_distance o u) ns
told_distances o u v a b ns = map_told_if_differs (neighbour_distance o u) o v a b (λ _ _. refl) ns

told_good : (o : OpeningView) (size v a b : ℕ) (ns : List NeighbourView) → AreNeighbours size ns →
    AreNeighbours size (told_if_differs o v a b ns)
told_good o size v a b ns good =
    cond_both (nat_eq a b) ns (map (tell o v b) ns) (AreNeighbours size) (λ _. good) (λ _. tell_good o size v b ns good)

module _ (o : OpeningView) (k v d : ℕ) (ns ms : List NeighbourView) (ds : List Destination) (head : Destination) (near : ℕ)
    (route : BestRoute) (kept : AreKept o ns ds) (h : k < length ns) (e : ms ≡ change k (advertising v d) ns) (node : v < o.size)
    (reach : d ≤ o.size) (up : is_up (neighbour_at ns k) ≡ true) (near_is : near ≡ filtered_distance o (neighbour_at ns k).imports v d)
    (i : ℕ) (place : i ≡ v)
    (best : route ≡ best_by o v (slice_set (slice_index_or ds i head).distances.items k near)) where
  others : (u : ℕ) → (u ≡ v → ⊥) → map (neighbour_distance o u) ms ≡ map (neighbour_distance o u) ns
  others u other =
      ap (λ qs. map (neighbour_distance o u) qs) e
      ∙ map_change_same (neighbour_distance o u) k (advertising v d) ns (advertising_distance o v d u (neighbour_at ns k) other)

  here : map (neighbour_distance o v) ms ≡ slice_set (map (neighbour_distance o v) ns) k near
  here =
      let advertised = (kept.neighbours.each k nobody h).one_a_node in
      ap (λ qs. map (neighbour_distance o v) qs) e
      ∙ map_change (neighbour_distance o v) k (advertising v d) ns h
      ∙ ap (λ x. slice_set (map (neighbour_distance o v) ns) k x)
      (ap (λ n. neighbour_distance o v n) (changed_at k (advertising v d) ns h)
      ∙ advertising_here o v d (neighbour_at ns k) (omega (arith, advertised)) up ∙ sym near_is)

  column : slice_set (slice_index_or ds i head).distances.items k near ≡ map (neighbour_distance o v) ms
  column =
      ap (λ xs. slice_set xs k near) (ap (λ j. (slice_index_or ds j head).distances.items) place ∙ kept.distances v head node)
      ∙ sym here

  old_is : (slice_index_or ds i head).route.dist ≡ distance_by o ns v
  old_is = ap (λ j. (slice_index_or ds j head).route.dist) place ∙ ap (λ r. r.dist) (kept_is o ns ds v head kept node)

  new_is : route.dist ≡ distance_by o ms v
  new_is = ap (λ r. r.dist) (best ∙ ap (λ xs. best_by o v xs) column)

  same_others : (u : ℕ) → u < o.size → (u ≡ v → ⊥) → distance_by o ns u ≡ distance_by o ms u
  same_others u below other = ap (λ xs. (best_by o u xs).dist) (sym (others u other))

  pub received : (sessions : ℕ) (rs : List NeighbourView) (byte : ℕ) →
      rs ≡ told_if_differs o v (slice_index_or ds i head).route.dist route.dist ms →
      byte ≡ from_bool (not (nat_eq (slice_index_or ds i head).route.dist route.dist)) →
      recomputed (world o sessions ns) (changed (world o sessions ns) k (advertising v d))
      ≡ answered (world o sessions rs) (reply.Done byte)
  received sessions rs byte told counts =
      let neighbours : tell_changes o (distance_by o ns) (distance_by o (change k (advertising v d) ns)) o.size (change k (advertising v d) ns) ≡ rs =
      ap (λ qs. tell_changes o (distance_by o ns) (distance_by o qs) o.size qs) (sym e)
      ∙ one_told o (distance_by o ns) (distance_by o ms) v o.size ms node same_others
      ∙ (λ i. told_if_differs o v (sym old_is i) (sym new_is i) ms)
      ∙ sym told in
      let number : count_changes (distance_by o ns) (distance_by o (change k (advertising v d) ns)) o.size ≡ byte =
      ap (λ qs. count_changes (distance_by o ns) (distance_by o qs) o.size) (sym e)
      ∙ one_counted (distance_by o ns) (distance_by o ms) v o.size node same_others
      ∙ (λ i. cond (nat_eq (sym old_is i) (sym new_is i)) 0 1)
      ∙ sym (byte_is (nat_eq (slice_index_or ds i head).route.dist route.dist))
      ∙ sym counts in
      λ i. answered (world o sessions (neighbours i)) (reply.Done (number i))

  ms_good : AreNeighbours o.size ms
  ms_good = subst (AreNeighbours o.size) (sym e)
      (change_good o.size k (advertising v d) ns h kept.neighbours
      (advertising_good o.size v d (neighbour_at ns k) node reach (kept.neighbours.each k nobody h)))

  pub received_kept : (rs : List NeighbourView) (new : Destination) →
      rs ≡ told_if_differs o v (slice_index_or ds i head).route.dist route.dist ms →
      new.distances.items ≡ slice_set (slice_index_or ds i head).distances.items k near → new.route ≡ route →
      AreKept o rs (slice_set ds i new)
  received_kept rs new told distances is =
      let short : v < length ds = omega (arith, kept.destinations.one_a_node) in
      let right : IsDestination o v new = record {
        one_a_node = ap (λ (xs : List ℕ). length xs) distances
            ∙ length-set (slice_index_or ds i head).distances.items k near
            ∙ ap (λ j. length (slice_index_or ds j head).distances.items) place
            ∙ (kept.destinations.right v head node).one_a_node;
        best = is ∙ best ∙ ap (λ xs. best_by o v xs) (sym distances);
      } in
      let after : (u : ℕ) → map (neighbour_distance o u) ms ≡ map (neighbour_distance o u) rs = λ u.
      sym (told_distances o u v (slice_index_or ds i head).route.dist route.dist ms)
      ∙ ap (λ qs. map (neighbour_distance o u) qs) (sym told) in
      subst (λ j. AreKept o rs (slice_set ds j new)) (sym place) (record {
        neighbours = subst (AreNeighbours o.size) (sym told)
            (told_good o o.size v (slice_index_or ds i head).route.dist route.dist ms ms_good);
        destinations = record {
          one_a_node = length-set ds v new ∙ kept.destinations.one_a_node;
          right = λ u c below. set_each (λ w x. w < o.size → IsDestination o w x) ds v new c short (λ _. right)
              (λ w other. kept.destinations.right w c) u below;
        };
        distances = λ u c below. set_each
            (λ w x. w < o.size → x.distances.items ≡ map (neighbour_distance o w) rs) ds v new c short
            (λ _. distances ∙ column ∙ after v)
            (λ w other h. kept.distances w c h ∙ sym (others w other) ∙ after w) u below;
      })

-- a distance that is in order
pub receive_goes : (o : OpeningView) (sessions : ℕ) (ns : List NeighbourView) (k v d : ℕ) → v < o.size → d ≤ o.size →
    receive (world o sessions ns) (Some k) v d ≡ recomputed (world o sessions ns) (changed (world o sessions ns) k (advertising v d))
receive_goes o sessions ns k v d node reach =
    let w = world o sessions ns in
    ap (λ b. cond b (refused w refusal.BadDest)
    (cond (nat_lt o.size d) (refused w refusal.BadDist) (recomputed w (changed w k (advertising v d))))) (lt-leb o.size v node)
    ∙ ap (λ b. cond b (refused w refusal.BadDist) (recomputed w (changed w k (advertising v d)))) (le-ltb o.size d reach)
