-- The loop that recomputes all routes, after one neighbour changed.
use Rattle.std.specs.Int.{from_bool}
use Rattle.std.proofs.Common.{◌≡◌, ℕ, ◌+◌, ◌-◌, ◌<◌, ◌≤◌, zero, suc, cond, nat_eq, not, Bool, true, false, List}
use Rattle.std.proofs.Common.{length, map, slice_index_or, slice_set, ap, sym, subst, ◌∙◌, arith, le_refl}
use Rattle.std.proofs.lemmas.Bool.{cond_both}
use Rattle.std.proofs.lemmas.List.{get_or-map, length-map}
use Rattle.netchange_core.specs.declared.destination.Destination.{Destination}
use Rattle.netchange_core.specs.declared.neighbour.Neighbour.{Neighbour}
use Rattle.netchange_core.specs.Best.{best_by, neighbour_distance}
use Rattle.netchange_core.specs.Kept.{AreKept, AreNeighbours, IsDestination, distance_by, kept_distance, view_of}
use Rattle.netchange_core.specs.Next.{count_changes, tell_changes}
use Rattle.netchange_core.specs.OpeningView.{OpeningView}
use Rattle.netchange_core.specs.Room.{HaveRoom}
use Rattle.netchange_core.specs.Recomputing.{AreStaleAt, told_if_differs}
use Rattle.netchange_core.specs.World.{NeighbourView, neighbour_at}
use Rattle.netchange_core.proofs.Queued.{changes_distance, changes_distances, changes_good, changes_more, count_more}
use Rattle.netchange_core.proofs.Replaced.{behind_set, below_set}

-- a destination keeps the distances that the neighbours give, and the best route by these
pub record IsUpToDate (o : OpeningView) (ns : List NeighbourView) (v : ℕ) (d : Destination) : Type 0 where
  pub right : IsDestination o v d
  pub distances : d.distances.items ≡ map (neighbour_distance o v) ns

-- the destinations below a number are recomputed, and the neighbours were told so
pub record AreRecomputed (o : OpeningView) (ms : List Neighbour) (old : List Destination) (v : ℕ) (ns : List Neighbour)
    (ds : List Destination) (count : ℕ) : Type 0 where
  pub told : map view_of ns ≡ tell_changes o (kept_distance old) (distance_by o (map view_of ms)) v (map view_of ms)
  pub count_is : count ≡ count_changes (kept_distance old) (distance_by o (map view_of ms)) v
  pub done : (u : ℕ) (d : Destination) → u < v → IsUpToDate o (map view_of ms) u (slice_index_or ds u d)
  pub rest : (u : ℕ) (d : Destination) → v ≤ u → slice_index_or ds u d ≡ slice_index_or old u d
  pub room : HaveRoom (o.size - v) ns

-- less room
pub less_room : (m n : ℕ) (ns : List Neighbour) → m ≤ n → HaveRoom n ns → HaveRoom m ns
less_room m n ns h room = λ k d short up. omega (arith, room k d short up)

-- no more distances change than there are nodes
pub count_within : (old new : ℕ → ℕ) (n : ℕ) → count_changes old new n ≤ n
count_within old new zero = omega arith
count_within old new (suc n) =
    let rest = count_within old new n in
    cond_both (nat_eq (old n) (new n)) (count_changes old new n) (count_changes old new n + 1) (λ m. m ≤ suc n)
    (λ _. omega arith) (λ _. omega arith)

pub counted : (same : Bool) (count byte : ℕ) → byte ≡ from_bool (not same) → count + byte ≡ cond same count (count + 1)
counted true count byte e = omega (arith, e)
counted false count byte e = omega (arith, e)

-- a destination after its turn
module _ (o : OpeningView) (hop v : ℕ) (ms ns : List Neighbour) (old ds : List Destination) (new head : Destination)
    (count : ℕ) (s : AreRecomputed o ms old v ns ds count) (below : v < o.size) (within : hop < length ms)
    (stale : AreStaleAt o hop (map view_of ms) old)
    (distances : new.distances.items ≡ slice_set (slice_index_or ds v head).distances.items hop
    (neighbour_distance o v (neighbour_at (map view_of ns) hop)))
    (right : IsDestination o v new) where
  near_is : neighbour_distance o v (neighbour_at (map view_of ns) hop) ≡ neighbour_distance o v (neighbour_at (map view_of ms) hop)
  near_is =
      ap (λ qs. neighbour_distance o v (neighbour_at qs hop)) s.told
      ∙ changes_distance o v hop (kept_distance old) (distance_by o (map view_of ms)) v (map view_of ms)
      (omega (arith, length-map ms view_of))

  pub now_up_to_date : IsUpToDate o (map view_of ms) v new
  now_up_to_date = record {
    right = right;
    distances =
        distances
        ∙ ap (λ d. slice_set d.distances.items hop (neighbour_distance o v (neighbour_at (map view_of ns) hop)))
        (s.rest v head (le_refl v))
        ∙ ap (λ n. slice_set (slice_index_or old v head).distances.items hop n) near_is
        ∙ stale.others v head below;
  }

  pub old_distance : v < length old → (slice_index_or ds v head).route.dist ≡ kept_distance old v
  old_distance short =
      ap (λ d. d.route.dist) (s.rest v head (le_refl v)) ∙ sym (get_or-map (λ d. d.route.dist) old v head 0 short)

  pub new_distance : new.route.dist ≡ distance_by o (map view_of ms) v
  new_distance = ap (λ r. r.dist) (right.best ∙ ap (λ xs. best_by o v xs) now_up_to_date.distances)

-- one destination more
pub recomputed_more : (o : OpeningView) (hop v : ℕ) (ms ns ns_new : List Neighbour) (old ds : List Destination)
    (new head : Destination) (count byte : ℕ) → AreRecomputed o ms old v ns ds count → v < o.size → hop < length ms →
    v < length ds → v < length old → AreStaleAt o hop (map view_of ms) old →
    map view_of ns_new ≡ told_if_differs o v (slice_index_or ds v head).route.dist new.route.dist (map view_of ns) →
    new.distances.items ≡ slice_set (slice_index_or ds v head).distances.items hop
    (neighbour_distance o v (neighbour_at (map view_of ns) hop)) →
    IsDestination o v new → ((more : ℕ) → HaveRoom (more + 1) ns → HaveRoom more ns_new) →
    byte ≡ from_bool (not (nat_eq (slice_index_or ds v head).route.dist new.route.dist)) →
    AreRecomputed o ms old (v + 1) ns_new (slice_set ds v new) (count + byte)
recomputed_more o hop v ms ns ns_new old ds new head count byte s below within short long stale told distances right room counts =
    let was = old_distance o hop v ms ns old ds new head count s below within stale distances right long in
    let is = new_distance o hop v ms ns old ds new head count s below within stale distances right in
    let up_to_date = now_up_to_date o hop v ms ns old ds new head count s below within stale distances right in
    let ps = map view_of ms in
    record {
      told =
          told
          ∙ (λ i. told_if_differs o v (was i) (is i) (s.told i))
          ∙ sym (changes_more o (kept_distance old) (distance_by o ps) v ps);
      count_is =
          counted (nat_eq (slice_index_or ds v head).route.dist new.route.dist) count byte counts
          ∙ (λ i. cond (nat_eq (was i) (is i)) (s.count_is i) (s.count_is i + 1))
          ∙ sym (count_more (kept_distance old) (distance_by o ps) v);
      done = λ u d h. below_set (λ w e. IsUpToDate o ps w e) ds v new d short up_to_date (λ w k. s.done w d k) u h;
      rest = λ u d h. behind_set ds v new d u h ∙ s.rest u d (omega arith);
      room = room (o.size - (v + 1)) (less_room (o.size - (v + 1) + 1) (o.size - v) ns (omega arith) s.room);
    }

-- after the last one
pub recomputed_kept : (o : OpeningView) (ms ns : List Neighbour) (old ds : List Destination) (count : ℕ) →
    AreRecomputed o ms old o.size ns ds count → AreNeighbours o.size (map view_of ms) → length ds ≡ o.size →
    AreKept o (map view_of ns) ds
recomputed_kept o ms ns old ds count s good all =
    let ps = map view_of ms in
    record {
      neighbours = subst (AreNeighbours o.size) (sym s.told)
          (changes_good o o.size (kept_distance old) (distance_by o ps) o.size ps good);
      destinations = record { one_a_node = all; right = λ v d h. (s.done v d h).right };
      distances = λ v d h.
          (s.done v d h).distances
          ∙ sym (changes_distances o v (kept_distance old) (distance_by o ps) o.size ps)
          ∙ ap (λ qs. map (neighbour_distance o v) qs) (sym s.told);
    }

-- the same, where its place is named by another number
pub recomputed_more_at : (o : OpeningView) (hop v i : ℕ) (ms ns ns_new : List Neighbour) (old ds : List Destination)
    (new head : Destination) (count byte : ℕ) → i ≡ v → AreRecomputed o ms old v ns ds count → v < o.size → hop < length ms →
    v < length ds → v < length old → AreStaleAt o hop (map view_of ms) old →
    map view_of ns_new ≡ told_if_differs o v (slice_index_or ds i head).route.dist new.route.dist (map view_of ns) →
    new.distances.items ≡ slice_set (slice_index_or ds i head).distances.items hop
    (neighbour_distance o v (neighbour_at (map view_of ns) hop)) →
    IsDestination o v new → ((more : ℕ) → HaveRoom (more + 1) ns → HaveRoom more ns_new) →
    byte ≡ from_bool (not (nat_eq (slice_index_or ds i head).route.dist new.route.dist)) →
    AreRecomputed o ms old (v + 1) ns_new (slice_set ds i new) (count + byte)
recomputed_more_at o hop v i ms ns ns_new old ds new head count byte e s below within short long stale told distances right room counts =
    let P : ℕ → Type 0 = λ j.
    map view_of ns_new ≡ told_if_differs o v (slice_index_or ds j head).route.dist new.route.dist (map view_of ns) →
    new.distances.items ≡ slice_set (slice_index_or ds j head).distances.items hop
    (neighbour_distance o v (neighbour_at (map view_of ns) hop)) →
    byte ≡ from_bool (not (nat_eq (slice_index_or ds j head).route.dist new.route.dist)) →
    AreRecomputed o ms old (v + 1) ns_new (slice_set ds j new) (count + byte) in
    let at_v : P v = λ t d b.
    recomputed_more o hop v ms ns ns_new old ds new head count byte s below within short long stale t d right room b in
    subst P (sym e) at_v told distances counts

pub byte_within : (b : Bool) → from_bool b ≤ 1
byte_within true = omega arith
byte_within false = omega arith

-- the destinations that are still to come are stale as they were
pub still_stale : (o : OpeningView) (hop v i : ℕ) (ms ns : List Neighbour) (old ds : List Destination) (head : Destination)
    (count : ℕ) → i ≡ v → AreRecomputed o ms old v ns ds count → v < o.size → hop < length ms →
    AreStaleAt o hop (map view_of ms) old →
    slice_set (slice_index_or ds i head).distances.items hop (neighbour_distance o v (neighbour_at (map view_of ns) hop))
    ≡ map (neighbour_distance o v) (map view_of ns)
still_stale o hop v i ms ns old ds head count e s below within stale =
    let ps = map view_of ms in
    let near = neighbour_distance o v (neighbour_at (map view_of ns) hop) in
    let near_is : near ≡ neighbour_distance o v (neighbour_at ps hop) =
    ap (λ qs. neighbour_distance o v (neighbour_at qs hop)) s.told
    ∙ changes_distance o v hop (kept_distance old) (distance_by o ps) v ps (omega (arith, length-map ms view_of)) in
    ap (λ j. slice_set (slice_index_or ds j head).distances.items hop near) e
    ∙ ap (λ d. slice_set d.distances.items hop near) (s.rest v head (le_refl v))
    ∙ ap (λ n. slice_set (slice_index_or old v head).distances.items hop n) near_is
    ∙ stale.others v head below
    ∙ sym (changes_distances o v (kept_distance old) (distance_by o ps) v ps)
    ∙ ap (λ qs. map (neighbour_distance o v) qs) (sym s.told)
