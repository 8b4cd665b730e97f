-- Sessions and queues stay sound.
use Rattle.std.proofs.Common.{◌≡◌, ⊎_elim, ℕ, ◌+◌, ◌<◌, ◌≤◌, zero, suc, true, false, nat_eq, All}
use Rattle.std.proofs.Common.{[], ◌∷◌, ◌++◌, length, drop, refl, sym, ap, subst, ◌∙◌, arith}
use Rattle.std.proofs.lemmas.Bool.{cases_eq, cond_both}
use Rattle.std.proofs.lemmas.List.Elements.{All-append, All-cons, All-drop, All-nil}
use Rattle.std.proofs.lemmas.Option.{none-some, same_Some}
use Rattle.filter_verifier.specs.VerifiedView.{VerifiedView}
use Rattle.std.specs.Prelude.{Option, Some, None}
use Rattle.netchange_core.specs.declared.message.Message.{Message}
use Rattle.netchange_core.specs.Best.{distance, neighbour_distances}
use Rattle.netchange_core.specs.Next.{all_messages, dequeued, message_of, recomputed, tell}
use Rattle.netchange_core.specs.OpeningView.{OpeningView}
use Rattle.netchange_core.specs.World.{NeighbourView, World, change, changed, is_up, neighbour_at}
use Rattle.netchange_core.proofs.Change.{changed_at}
use Rattle.netchange_core.proofs.Opened.{best_within}
use Rattle.routing_domain.specs.Domain.{IsQueued, IsSound, IsWithin}
use Rattle.routing_domain.proofs.Increasing.{filtered_farther}
use Rattle.routing_domain.proofs.Recomputed.{changed_other, recomputed_at}
use Rattle.routing_domain.proofs.Seen.{told_seen}
use Rattle.routing_domain.proofs.Told.{told_changes}

-- what tells a distance fits the domain
message_within : (o : OpeningView) (exports : Option VerifiedView) (size v d : ℕ) → o.size ≡ size → v < size → d ≤ size →
    IsWithin size (message_of o exports v d)
message_within o exports size v d e there limit =
    record { dest = there; dist = omega (arith, e, (filtered_farther o exports v d (omega (arith, e, limit))).within) }

pub all_within : (o : OpeningView) (exports : Option VerifiedView) (size : ℕ) (dist : ℕ → ℕ) (count : ℕ) → o.size ≡ size → count ≤ size →
    ((v : ℕ) → dist v ≤ size) → All (IsWithin size) (all_messages o exports dist count)
all_within o exports size dist zero e few limit = All-nil (IsWithin size)
all_within o exports size dist (suc v) e few limit =
    All-append (IsWithin size) (all_messages o exports dist v) (message_of o exports v (dist v) ∷ [])
    (all_within o exports size dist v e (omega (arith, few)) limit)
    (All-cons (IsWithin size) (message_of o exports v (dist v)) [] (message_within o exports size v (dist v) e few (limit v)) (All-nil (IsWithin size)))

tell_queued : (o : OpeningView) (size v d : ℕ) (n : NeighbourView) → o.size ≡ size → v < size → d ≤ size → IsQueued size n → IsQueued size (tell o v d n)
tell_queued o size v d n e there limit q =
    cond_both (is_up n) (record n { queue = n.queue ++ message_of o n.exports v d ∷ [] }) n (IsQueued size)
    (λ up. record {
      within = All-append (IsWithin size) n.queue (message_of o n.exports v d ∷ []) q.within
          (All-cons (IsWithin size) (message_of o n.exports v d) [] (message_within o n.exports size v d e there limit) (All-nil (IsWithin size)));
      idle = λ down. absurd (let h : true ≡ false = sym up ∙ down in cc);
    })
    (λ _. q)

changes_queued : (o : OpeningView) (size : ℕ) (old new : ℕ → ℕ) (count : ℕ) (n : NeighbourView) → o.size ≡ size → count ≤ size →
    ((v : ℕ) → new v ≤ size) → IsQueued size n → IsQueued size (told_changes o old new count n)
changes_queued o size old new zero n e few limit q = q
changes_queued o size old new (suc v) n e few limit q =
    let m = told_changes o old new v n in
    let rest : IsQueued size m = changes_queued o size old new v n e (omega (arith, few)) limit q in
    cond_both (nat_eq (old v) (new v)) m (tell o v (new v) m) (IsQueued size) (λ _. rest)
    (λ _. tell_queued o size v (new v) m e few (limit v) rest)

pub dequeued_queued : (size max : ℕ) (n : NeighbourView) → IsQueued size n → IsQueued size (dequeued max n)
dequeued_queued size max n q = record {
  within = All-drop (IsWithin size) max n.queue q.within;
  idle = λ down. ap (drop max) (q.idle down) ∙ nothing max;
}
  where
    nothing : (k : ℕ) → drop {A = Message} k [] ≡ []
    nothing zero = refl
    nothing (suc k) = refl

-- a change of one neighbour after which its session is no other's
pub record IsOwn (r : World) (k : ℕ) (session : Option ℕ) (sessions : ℕ) : Type 0 where
  pub more : r.sessions ≤ sessions
  pub opened : (s : ℕ) → session ≡ Some s → s ≤ sessions
  pub own : (j s : ℕ) → (j ≡ k → ⊥) → session ≡ Some s → (neighbour_at r.neighbours j).session ≡ Some s → ⊥

pub kept_own : (size : ℕ) (r : World) (k : ℕ) → IsSound size r → IsOwn r k (neighbour_at r.neighbours k).session r.sessions
kept_own size r k s = record { more = omega arith; opened = s.opened k; own = λ j t other here there. other (s.apart j k t here there) }

pub down_own : (r : World) (k : ℕ) → IsOwn r k None r.sessions
down_own r k =
    record { more = omega arith; opened = λ t is. absurd (none-some t is); own = λ j t other is there. none-some t is }

pub new_own : (size : ℕ) (r : World) (k : ℕ) → IsSound size r → IsOwn r k (Some (r.sessions + 1)) (r.sessions + 1)
new_own size r k s = record {
  more = omega arith;
  opened = λ t is. omega (arith, same_Some (r.sessions + 1) t is);
  own = λ j t other is there. omega (arith, same_Some (r.sessions + 1) t is, s.opened j t there);
}

pub changed_sound : (size sessions : ℕ) (r : World) (k : ℕ) (f : NeighbourView → NeighbourView) → IsSound size r → k < length r.neighbours →
    IsOwn r k (f (neighbour_at r.neighbours k)).session sessions → IsQueued size (f (neighbour_at r.neighbours k)) →
    IsSound size (record (changed r k f) { sessions = sessions })
changed_sound size sessions r k f s near own q = record {
  opened = λ x t held. ⊎_elim (λ here. own.opened t (sym (at_k x here) ∙ held))
      (λ other. omega (arith, own.more, s.opened x t (sym (at_other x other) ∙ held))) (cases_eq x k);
  apart = apart;
  queues = λ x short. ⊎_elim
      (λ here. subst (λ y. IsQueued size (neighbour_at (change k f r.neighbours) y)) (sym here)
      (subst (IsQueued size) (sym (changed_at k f r.neighbours near)) q))
      (λ other. subst (IsQueued size) (sym (changed_other k x f r.neighbours near other)) (s.queues x short))
      (cases_eq x k);
}
  where
    at_k : (x : ℕ) → x ≡ k → (neighbour_at (change k f r.neighbours) x).session ≡ (f (neighbour_at r.neighbours k)).session
    at_k x here =
        ap (λ y. (neighbour_at (change k f r.neighbours) y).session) here ∙ ap (λ n. n.session) (changed_at k f r.neighbours near)

    at_other : (x : ℕ) → (x ≡ k → ⊥) → (neighbour_at (change k f r.neighbours) x).session ≡ (neighbour_at r.neighbours x).session
    at_other x other = ap (λ n. n.session) (changed_other k x f r.neighbours near other)

    apart : (j i t : ℕ) → (neighbour_at (change k f r.neighbours) i).session ≡ Some t →
        (neighbour_at (change k f r.neighbours) j).session ≡ Some t → j ≡ i
    apart j i t has_i has_j =
        ⊎_elim
        (λ (jk : j ≡ k). ⊎_elim (λ (ik : i ≡ k). jk ∙ sym ik)
        (λ (other : i ≡ k → ⊥). absurd (own.own i t other (sym (at_k j jk) ∙ has_j) (sym (at_other i other) ∙ has_i)))
        (cases_eq i k))
        (λ (apart : j ≡ k → ⊥).
        ⊎_elim (λ (ik : i ≡ k). absurd (own.own j t apart (sym (at_k i ik) ∙ has_i) (sym (at_other j apart) ∙ has_j)))
        (λ (other : i ≡ k → ⊥). s.apart j i t (sym (at_other i other) ∙ has_i) (sym (at_other j apart) ∙ has_j))
        (cases_eq i k))
        (cases_eq j k)

-- all routes brought up to date after it
pub recomputed_sound : (size : ℕ) (r : World) (k : ℕ) (f : NeighbourView → NeighbourView) → r.opening.size ≡ size → length r.neighbours ≡ size →
    IsSound size r → k < length r.neighbours → IsOwn r k (f (neighbour_at r.neighbours k)).session r.sessions →
    IsQueued size (f (neighbour_at r.neighbours k)) → IsSound size (recomputed r (changed r k f)).world
recomputed_sound size r k f e long s near own q =
    let c : IsSound size (changed r k f) = changed_sound size r.sessions r k f s near own q in
    let session = λ (x : ℕ). told_seen (λ n. n.session) r k f x (λ _ _. refl) in
    record {
      opened = λ x t held. c.opened x t (sym (session x) ∙ held);
      apart = λ j i t has_i has_j. c.apart j i t (sym (session i) ∙ has_i) (sym (session j) ∙ has_j);
      queues = λ x short.
          subst (IsQueued size) (sym (recomputed_at r k x f (omega (arith, short, long))))
          (changes_queued r.opening size (distance r) (distance (changed r k f)) r.opening.size (neighbour_at (change k f r.neighbours) x) e (omega (arith, e))
          (λ v. omega (arith, e, best_within r.opening v (neighbour_distances (changed r k f) v))) (c.queues x short));
    }
