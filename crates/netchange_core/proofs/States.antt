-- States after an event: what holds where only one neighbour changed, and when an event is carried out.
use Rattle.std.proofs.Common.{◌≡◌, ℕ, ◌<◌, Vec, Result, Ok, Err, List, ◌++◌, length, map, take, drop}
use Rattle.std.proofs.Common.{slice_index_or, slice_set, ap, sym, subst, refl, ◌∙◌, arith}
use Rattle.std.proofs.Math.Seq.{take-append_seam}
use Rattle.std.proofs.lemmas.List.{length-map}
use Rattle.std.specs.Result.{IsErr}
use Rattle.std.specs.Vec.{with_items}
use Rattle.std.specs.declared.alloc.Global.{Global}
use Rattle.std.specs.declared.alloc.AllocError.{AllocError}
use Rattle.netchange_core.specs.declared.destination.Destination.{Destination}
use Rattle.netchange_core.specs.declared.neighbour.Neighbour.{Neighbour}
use Rattle.netchange_core.specs.declared.reply.Reply.{Reply}
use Rattle.netchange_core.specs.declared.reply.Reply.TheVariants as reply
use Rattle.netchange_core.specs.declared.sessions.Present.{Present}
use Rattle.netchange_core.specs.declared.state.State.{State}
use Rattle.netchange_core.specs.Best.{neighbour_distance}
use Rattle.netchange_core.specs.Calls.{MayNeedMemory}
use Rattle.netchange_core.specs.Handling.{Handles}
use Rattle.netchange_core.specs.Kept.{AreKept, AreNeighbours, AreTables, IsNeighbour, distance_by, kept_distance, view_of, views_of, world_of}
use Rattle.netchange_core.specs.Next.{Answered, answered, recomputed}
use Rattle.netchange_core.specs.OpeningView.{OpeningView}
use Rattle.netchange_core.specs.Present.{ArePresent, sessions_of}
use Rattle.netchange_core.specs.Room.{HasRoom, HaveRoom}
use Rattle.netchange_core.specs.Recomputing.{IsStaleAt, Recomputes, world_told}
use Rattle.netchange_core.specs.World.{NeighbourView, change, changed, neighbour_at, nobody}
use Rattle.netchange_core.proofs.Change.{change_good, change_stale, changed_views}
use Rattle.netchange_core.proofs.Presence.{sessions_kept, sessions_told}
use Rattle.netchange_core.proofs.Rooms.{room_set}
use Rattle.netchange_core.proofs.Recomputed.{AreRecomputed, recomputed_kept}
use Rattle.netchange_core.proofs.Unchanged.{kept_unchanged}
use Rattle.netchange_core.proofs.Views.{same_views, view_at}
use Rattle.netchange_core.proofs.Worlds.{recomputed_is}

-- a vector whose elements were borrowed has those that were put back
pub put_back : {X Z : Type 0} (v : Vec X Z) (xs : List X) → length xs ≡ length v.items → (with_items v xs).items ≡ xs
put_back v xs e =
    ap (λ n. take n (xs ++ drop (length xs) v.items)) (v.ok.0 ∙ sym e) ∙ take-append_seam xs (drop (length xs) v.items)

-- a neighbour of a state is at hand: it is borrowed from neighbours that look as the state's, and may have got room since
pub record IsAtHand (s : State) (ns : List Neighbour) (k : ℕ) (n : Neighbour) : Type 0 where
  pub within : k < length (views_of s)
  pub same : map view_of ns ≡ views_of s
  pub is : n ≡ slice_index_or ns k n

-- of the neighbours of a domain only the one in a place changed, as a function says, and is still a neighbour of the domain
pub record ChangesOne (o : OpeningView) (k : ℕ) (f : NeighbourView → NeighbourView) (old new : List NeighbourView) : Type 0 where
  pub within : k < length old
  pub is : new ≡ change k f old
  pub good : IsNeighbour o.size (f (neighbour_at old k))

-- room was made in the queues of a state's neighbours, which were borrowed for that
module _ (s : State) (lent rooms : List Neighbour) (lent_is : lent ≡ s.neighbours.items) (long : length rooms ≡ length lent) where
  back : (with_items s.neighbours rooms).items ≡ rooms
  back = put_back s.neighbours rooms (long ∙ ap (λ (ms : List Neighbour). length ms) lent_is)

  pub made_room : map view_of rooms ≡ map view_of lent → map view_of (with_items s.neighbours rooms).items ≡ views_of s
  made_room same = ap (λ ms. map view_of ms) back ∙ same ∙ ap (λ ms. map view_of ms) lent_is

  pub room_made : (more : ℕ) → HaveRoom more rooms → HaveRoom more (with_items s.neighbours rooms).items
  room_made more room = subst (HaveRoom more) (sym back) room

module _ (s : State) (right : AreTables s) (ns : List Neighbour) (k : ℕ) (n : Neighbour) (here : IsAtHand s ns k n) where
  short : k < length ns
  short = omega (arith, here.within, ap (λ (ms : List NeighbourView). length ms) here.same, length-map ns view_of)

  -- it looks as the state has it
  pub looks : view_of n ≡ neighbour_at (views_of s) k
  looks = ap view_of here.is ∙ view_at ns k n short ∙ ap (λ ms. neighbour_at ms k) here.same

  pub good_here : IsNeighbour s.opening.size (view_of n)
  good_here = subst (IsNeighbour s.opening.size) (sym looks) (right.kept.neighbours.each k nobody here.within)

  -- another takes its place, which looks as a function says
  pub changes_one : (f : NeighbourView → NeighbourView) (new : Neighbour) → view_of new ≡ f (view_of n) →
      (IsNeighbour s.opening.size (view_of n) → IsNeighbour s.opening.size (f (view_of n))) →
      ChangesOne s.opening k f (views_of s) (map view_of (slice_set ns k new))
  changes_one f new e good = record {
    within = here.within;
    is = changed_views ns k new n f short (e ∙ ap (λ m. f (view_of m)) here.is) ∙ ap (λ ms. change k f ms) here.same;
    good = subst (λ m. IsNeighbour s.opening.size (f m)) looks (good good_here);
  }

  -- or the same
  pub all_same : (new : Neighbour) → view_of new ≡ view_of n → map view_of (slice_set ns k new) ≡ views_of s
  all_same new e = same_views ns k new n (e ∙ ap view_of here.is) ∙ here.same

  -- and there still is room
  pub room_stays : (more : ℕ) (new : Neighbour) → HaveRoom more ns → (HasRoom more n → HasRoom more new) →
      HaveRoom more (slice_set ns k new)
  room_stays more new room stays =
      room_set more ns k new short room (stays (subst (HasRoom more) (sym here.is) (room k n short)))

-- a state with other neighbours and present sessions
abbrev pub state_with : State → Vec Neighbour Global → Vec Present Global → State
state_with s ns ps = record s { neighbours = ns; sessions = record s.sessions { present = ps } }

module _ (s : State) (right : AreTables s) (k : ℕ) (f : NeighbourView → NeighbourView) (ns : Vec Neighbour Global)
    (one : ChangesOne s.opening k f (views_of s) (map view_of ns.items)) where
  -- where its distances stay, all that is kept stays right
  pub still_kept : ((v : ℕ) → v < s.opening.size → neighbour_distance s.opening v (f (neighbour_at (views_of s) k))
      ≡ neighbour_distance s.opening v (neighbour_at (views_of s) k)) → AreKept s.opening (map view_of ns.items) s.destinations.items
  still_kept same =
      kept_unchanged s.opening k f (views_of s) (map view_of ns.items) s.destinations.items one.within one.is right.kept one.good same

  -- and where no session changes, so does the state
  pub still_right : ((n : NeighbourView) → (f n).session ≡ n.session) →
      ((v : ℕ) → v < s.opening.size → neighbour_distance s.opening v (f (neighbour_at (views_of s) k))
      ≡ neighbour_distance s.opening v (neighbour_at (views_of s) k)) → AreTables (state_with s ns s.sessions.present)
  still_right same_session same = record {
    kept = still_kept same;
    present = subst (λ ss. ArePresent s.sessions.count ss s.sessions.present.items)
        (sym (sessions_kept (views_of s) (map view_of ns.items) k f one.is same_session)) right.present;
  }

  -- else it is stale there
  pub stale_there : (ps : Vec Present Global) → ArePresent s.sessions.count (sessions_of (map view_of ns.items)) ps.items →
      HaveRoom s.opening.size ns.items → IsStaleAt k (state_with s ns ps)
  stale_there ps present room = record {
    node = omega (arith, one.within, right.kept.neighbours.one_a_node);
    neighbours = subst (AreNeighbours s.opening.size) (sym one.is)
        (change_good s.opening.size k f (views_of s) one.within right.kept.neighbours one.good);
    present = present;
    destinations = right.kept.destinations;
    stale = change_stale s.opening k f (views_of s) (map view_of ns.items) s.destinations.items one.within one.is right.kept;
    room = room;
  }

  -- and is right again when it was recomputed, which carries out an event that recomputes
  pub recompute_handles : (ps : Vec Present Global) (new : State) (count : ℕ) → Recomputes (state_with s ns ps) new count →
      Handles s (recomputed (world_of s) (changed (world_of s) k f)) new (Ok (reply.Done count))
  recompute_handles ps new count recomputes = record {
    done =
        recomputed_is s.opening s.sessions.count (views_of s) (map view_of ns.items)
        (world_told (state_with s ns ps)).neighbours s.destinations.items k f count right.kept one.is refl recomputes.count_is
        ∙ ap (λ w. answered w (reply.Done count)) (sym recomputes.told);
    tables = recomputes.tables;
    opening = ap (λ w. w.opening) recomputes.told;
    same = tt;
    memory = tt;
  }

-- a state after the loop that recomputes all routes
pub recomputes : (s : State) (k : ℕ) (ns : List Neighbour) (ds : List Destination) (count : ℕ) → IsStaleAt k s →
    AreRecomputed s.opening s.neighbours.items s.destinations.items s.opening.size ns ds count →
    length ns ≡ length s.neighbours.items → length ds ≡ length s.destinations.items →
    Recomputes s (record s { neighbours = with_items s.neighbours ns; destinations = with_items s.destinations ds }) count
recomputes s k ns ds count stale loop long wide =
    let old = kept_distance s.destinations.items in
    let new = distance_by s.opening (views_of s) in
    let told = ap (λ ms. map view_of ms) (put_back s.neighbours ns long) ∙ loop.told in
    record {
      tables = record {
        kept = subst (λ ms. AreKept s.opening (map view_of ms) (with_items s.destinations ds).items)
            (sym (put_back s.neighbours ns long))
            (subst (λ es. AreKept s.opening (map view_of ns) es) (sym (put_back s.destinations ds wide))
            (recomputed_kept s.opening s.neighbours.items ns s.destinations.items ds count loop stale.neighbours
            (wide ∙ stale.destinations.one_a_node)));
        present = subst (λ ss. ArePresent s.sessions.count ss s.sessions.present.items)
            (sym (ap sessions_of told ∙ sessions_told s.opening old new s.opening.size (views_of s))) stale.present;
      };
      told = ap (λ ms. record (world_of s) { neighbours = ms }) told;
      count_is = loop.count_is;
    }

-- an event is carried out by a state that is right and stands for the world of its answer
pub done : (s t : State) (a : Answered) (r : Reply) → t.opening ≡ s.opening → a ≡ answered (world_of t) r → AreTables t →
    Handles s a t (Ok r)
done s t a r opening is right = record { done = is; tables = right; opening = opening; same = tt; memory = tt }

-- there was no memory, and at most room was made
pub no_memory : (s : State) (ns : Vec Neighbour Global) (ps : Vec Present Global) (a : Answered) (r : Result Reply AllocError) →
    AreTables s → map view_of ns.items ≡ views_of s → ps.items ≡ s.sessions.present.items → MayNeedMemory a.reply → IsErr r →
    Handles s a (state_with s ns ps) r
no_memory s ns ps a (Ok x) right views present memory e = absurd (cc)
no_memory s ns ps a (Err x) right views present memory e = record {
  done = tt;
  tables = record {
    kept = subst (λ ms. AreKept s.opening ms s.destinations.items) (sym views) right.kept;
    present = subst (λ qs. ArePresent s.sessions.count (sessions_of (map view_of ns.items)) qs) (sym present)
        (subst (λ ms. ArePresent s.sessions.count (sessions_of ms) s.sessions.present.items) (sym views) right.present);
  };
  opening = refl;
  same = ap (λ ms. record (world_of s) { neighbours = ms }) views;
  memory = memory;
}
