-- Down, Receive and SetImport: one neighbour changed, and each distance that changed is told.
use Rattle.std.proofs.Common.{◌≡◌, ◌∙◌, sym, ap, subst, refl, ℕ, ◌<◌, ◌⊎◌, inl, inr, ◌++◌, true, Some, None, is_some, List, length, arith}
use Rattle.std.proofs.lemmas.Bool.{cases_eq}
use Rattle.std.proofs.lemmas.Option.{none-some}
use Rattle.netchange_core.specs.declared.event.Event.{Event}
use Rattle.netchange_core.specs.declared.message.Message.{Message}
use Rattle.netchange_core.specs.Best.{best_by, distance, neighbour_distance}
use Rattle.netchange_core.specs.Calls.{session_of}
use Rattle.netchange_core.specs.Next.{recomputed}
use Rattle.netchange_core.specs.World.{NeighbourView, World, changed, is_up, neighbour_at}
use Rattle.netchange_core.proofs.Change.{changed_at}
use Rattle.netchange_core.proofs.Holders.{holder_found, holder_none}
use Rattle.netchange_core.proofs.Queued.{map_told}
use Rattle.route_history.specs.Sent.{changes_for, news, queued_at, queued_for, queued_in}
use Rattle.route_history.proofs.Advances.{Advances, takes_nothing}
use Rattle.route_history.proofs.Holders.{AreOwn}
use Rattle.route_history.proofs.Neighbours.{at_another, change_length, length_told, notified_session, told_at, up_notified}

-- the neighbour keeps its session and its queue, or leaves
abbrev pub Keeps : NeighbourView → NeighbourView → Type 0
Keeps p q = ((q.session ≡ p.session) × (q.queue ≡ p.queue)) ⊎ (q.session ≡ None)

module _ (w : World) (s j : ℕ) (f : NeighbourView → NeighbourView) (e : Event) (own : AreOwn w)
    (there : j < length w.neighbours) (keeps : (p : NeighbourView) → Keeps p (f p))
    (all_changes : (new : World) (k : ℕ) → queued_at w new k e ≡ changes_for w new (neighbour_at new.neighbours k)) where
  abbrev mid : World
  mid = changed w j f

  abbrev after : World
  after = (recomputed w mid).world

  kept_at : (k : ℕ) → Keeps (neighbour_at w.neighbours k) (neighbour_at mid.neighbours k)
  kept_at k = elim (cases_eq k j) [
    | inl is ↦
        let P : NeighbourView → Type 0 = λ q. Keeps (neighbour_at w.neighbours k) q in
        subst P (sym (ap (neighbour_at mid.neighbours) is ∙ changed_at j f w.neighbours there ∙ ap (λ i. f (neighbour_at w.neighbours i)) (sym is)))
        (keeps (neighbour_at w.neighbours k))
    | inr other ↦
        let same = at_another f w.neighbours j k other in
        inl (ap (λ (q : NeighbourView). q.session) same, ap (λ (q : NeighbourView). q.queue) same)
  ]

  session_told : (k : ℕ) → session_of after k ≡ session_of mid k
  session_told k = ap (λ (q : NeighbourView). q.session) (told_at w.opening (distance w) (distance mid) w.opening.size mid.neighbours k)
      ∙ notified_session w.opening (distance w) (distance mid) w.opening.size (neighbour_at mid.neighbours k)

  session_kept : (k t : ℕ) → session_of after k ≡ Some t → session_of w k ≡ Some t
  session_kept k t here = elim (kept_at k) [
    | inl same ↦ sym (session_told k ∙ same.0) ∙ here
    | inr none ↦ absurd (none-some t (sym (session_told k ∙ none) ∙ here))
  ]

  distance_told : (v : ℕ) → distance after v ≡ distance mid v
  distance_told v = ap (λ ds. (best_by w.opening v ds).dist)
      (map_told (neighbour_distance w.opening v) w.opening (distance w) (distance mid) (λ p m. refl) w.opening.size mid.neighbours)

  now_queued : (k : ℕ) → session_of after k ≡ Some s →
      (neighbour_at w.neighbours k).queue ++ queued_at w after k e ≡ (neighbour_at after.neighbours k).queue
  now_queued k now =
      let p = neighbour_at mid.neighbours k in
      let told = told_at w.opening (distance w) (distance mid) w.opening.size mid.neighbours k in
      let held : session_of mid k ≡ Some s = sym (session_told k) ∙ now in
      let is_up_now : is_up p ≡ true = ap is_some held in
      let waits = told ∙ up_notified w.opening (distance w) (distance mid) w.opening.size p is_up_now in
      let exports = ap (λ (q : NeighbourView). q.exports) waits in
      let same_queue : p.queue ≡ (neighbour_at w.neighbours k).queue = elim (kept_at k) [
        | inl same ↦ same.1
        | inr none ↦ absurd (none-some s (sym none ∙ held))
      ] in
      let same_distance : distance after ≡ distance mid = λ i v. distance_told v i in
      let same_news : queued_at w after k e ≡ news w.opening p.exports (distance w) (distance mid) w.opening.size =
      all_changes after k ∙ (λ i. news w.opening (exports i) (distance w) (same_distance i) w.opening.size) in
      (λ i. sym same_queue i ++ same_news i) ∙ sym (ap (λ (q : NeighbourView). q.queue) waits)

  own_after : AreOwn after
  own_after = record {
    opened = λ k t here. own.opened k t (session_kept k t here);
    apart = λ i k t here same. own.apart i k t (session_kept k t here) (session_kept i t same);
    one_a_node = length_told w.opening (distance w) (distance mid) w.opening.size mid.neighbours
        ∙ change_length f w.neighbours j ∙ own.one_a_node;
  }

  queued_now : (k : ℕ) → session_of after k ≡ Some s → queued_in w s e (recomputed w mid) ≡ queued_at w after k e
  queued_now k now = ap (queued_for w after e) (holder_found after.neighbours s k own_after.apart now)

  pub recomputed_advances : Advances w s e (recomputed w mid)
  recomputed_advances = record {
    goes_on = λ k now before.
        ap (λ m. (neighbour_at w.neighbours k).queue ++ m) (queued_now k now) ∙ now_queued k now
        ∙ sym (ap (λ (m : List Message). m ++ (neighbour_at after.neighbours k).queue) (takes_nothing e s));
    begins = λ k now before. absurd (before (session_kept k s now));
    is_gone = λ nobody_has. (takes_nothing e s, ap (queued_for w after e) (holder_none after.neighbours s nobody_has));
    own = own_after;
    more = omega arith;
  }
