-- Take and SetExport: one neighbour's queue changes, and no session.
use Rattle.std.proofs.Common.{◌≡◌, ◌∙◌, sym, ap, refl, ℕ, ◌<◌, inl, inr, ◌++◌, if◌then◌else◌}
use Rattle.std.proofs.Common.{Some, is_some, List, [], length, take, drop, append-nil, arith}
use Rattle.std.proofs.lemmas.List.{take-append-drop}
use Rattle.std.proofs.lemmas.Bool.{cases_eq, eq-eqb, ne_eqb}
use Rattle.std.proofs.lemmas.Option.{same_Some}
use Rattle.std.specs.declared.sync.Arc.{Arc}
use Rattle.std.specs.declared.alloc.Global.{Global}
use Rattle.filter_verifier.specs.VerifiedView.{VerifiedView}
use Rattle.netchange_core.specs.declared.event.Event.{Event}
use Rattle.netchange_core.specs.declared.event.Event.TheVariants as event
use Rattle.netchange_core.specs.declared.message.Message.{Message}
use Rattle.netchange_core.specs.declared.reply.Reply.{Reply}
use Rattle.netchange_core.specs.declared.reply.Reply.TheVariants as reply
use Rattle.netchange_core.specs.Best.{distance}
use Rattle.netchange_core.specs.Calls.{session_of}
use Rattle.netchange_core.specs.Next.{answered, dequeued, exporting}
use Rattle.netchange_core.specs.World.{NeighbourView, World, changed, holder, neighbour_at}
use Rattle.netchange_core.proofs.Change.{changed_at}
use Rattle.netchange_core.proofs.Holders.{holder_found, holder_none}
use Rattle.route_history.specs.Sent.{all_of, queued_at, queued_for, queued_in}
use Rattle.route_history.proofs.Advances.{Advances, took_in}
use Rattle.route_history.proofs.Holders.{AreOwn}
use Rattle.route_history.proofs.Neighbours.{at_another, change_length}

module _ (w : World) (s j : ℕ) (f : NeighbourView → NeighbourView) (own : AreOwn w)
    (there : j < length w.neighbours) (keeps : (p : NeighbourView) → (f p).session ≡ p.session) where
  abbrev after : World
  after = changed w j f

  pub changed_here : (k : ℕ) → k ≡ j → neighbour_at after.neighbours k ≡ f (neighbour_at w.neighbours k)
  changed_here k is = ap (neighbour_at after.neighbours) is ∙ changed_at j f w.neighbours there ∙ ap (λ i. f (neighbour_at w.neighbours i)) (sym is)

  pub another : (k : ℕ) → (k ≡ j → ⊥) → neighbour_at after.neighbours k ≡ neighbour_at w.neighbours k
  another k other = at_another f w.neighbours j k other

  pub same_session : (k : ℕ) → session_of after k ≡ session_of w k
  same_session k = elim (cases_eq k j) [
    | inl is ↦ ap (λ (p : NeighbourView). p.session) (changed_here k is) ∙ keeps (neighbour_at w.neighbours k)
    | inr other ↦ ap (λ (p : NeighbourView). p.session) (another k other)
  ]

  pub own_after : AreOwn after
  own_after = record {
    opened = λ k t here. own.opened k t (sym (same_session k) ∙ here);
    apart = λ i k t here same. own.apart i k t (sym (same_session k) ∙ here) (sym (same_session i) ∙ same);
    one_a_node = change_length f w.neighbours j ∙ own.one_a_node;
  }

  -- enough is to say what happens to the queue of a neighbour that holds the session
  pub one_queue : (e : Event) (r : Reply) →
      ((m : List Message) → queued_in w s e (answered after r) ≡ queued_for w after e (holder after s)) →
      ((k : ℕ) → session_of w k ≡ Some s →
      (neighbour_at w.neighbours k).queue ++ queued_at w after k e
      ≡ took_in s e (answered after r) ++ (neighbour_at after.neighbours k).queue) →
      (((k : ℕ) → session_of after k ≡ Some s → ⊥) → took_in s e (answered after r) ≡ []) →
      Advances w s e (answered after r)
  one_queue e r queues goes quiet = record {
    goes_on = λ k now before.
        ap (λ m. (neighbour_at w.neighbours k).queue ++ m)
        (queues [] ∙ ap (queued_for w after e) (holder_found after.neighbours s k own_after.apart now))
        ∙ goes k before;
    begins = λ k now before. absurd (before (sym (same_session k) ∙ now));
    is_gone = λ nobody_has. (quiet nobody_has, queues [] ∙ ap (queued_for w after e) (holder_none after.neighbours s nobody_has));
    own = own_after;
    more = omega arith;
  }

abbrev nothing : List Message
nothing = []

-- Take of the session that node j holds
pub taken_advances : (w : World) (s t max j : ℕ) → AreOwn w → j < length w.neighbours → session_of w j ≡ Some t →
    Advances w s (event.Take t max)
    (answered (changed w j (dequeued max)) (reply.Messages (take max (neighbour_at w.neighbours j).queue)))
taken_advances w s t max j own there holds =
    let messages = take max (neighbour_at w.neighbours j).queue in
    let not_other : (k : ℕ) → session_of w k ≡ Some s → (k ≡ j → ⊥) → (t ≡ s → ⊥) =
    λ k now other same. other (own.apart k j s (holds ∙ ap Some same) now) in
    one_queue w s j (dequeued max) own there (λ p. refl) (event.Take t max) (reply.Messages messages) (λ m. refl)
    (λ k now. elim (cases_eq k j) [
      | inl is ↦
          let same : t ≡ s = same_Some t s (sym holds ∙ ap (session_of w) (sym is) ∙ now) in
          append-nil (neighbour_at w.neighbours k).queue
          ∙ sym (take-append-drop max (neighbour_at w.neighbours k).queue)
          ∙ sym (ap (λ b. (if b then messages else nothing) ++ (neighbour_at (changed w j (dequeued max)).neighbours k).queue) (eq-eqb t s same)
          ∙ ap (λ m. messages ++ m) (ap (λ (p : NeighbourView). p.queue) (changed_here w s j (dequeued max) own there (λ p. refl) k is))
          ∙ ap (λ i. take max (neighbour_at w.neighbours i).queue ++ drop max (neighbour_at w.neighbours k).queue) (sym is))
      | inr other ↦
          append-nil (neighbour_at w.neighbours k).queue
          ∙ sym (ap (λ b. (if b then messages else nothing) ++ (neighbour_at (changed w j (dequeued max)).neighbours k).queue)
          (ne_eqb t s (not_other k now other))
          ∙ ap (λ (p : NeighbourView). p.queue) (another w s j (dequeued max) own there (λ p. refl) k other))
    ])
    (λ nobody_has. ap (λ b. if b then messages else nothing)
    (ne_eqb t s (λ same. nobody_has j (same_session w s j (dequeued max) own there (λ p. refl) j ∙ holds ∙ ap Some same))))

-- an export filter of node j
pub exported_advances : (w : World) (s j : ℕ) (f : Arc VerifiedView Global) → AreOwn w → j < length w.neighbours →
    Advances w s (event.SetExport j f) (answered (changed w j (exporting w.opening (distance w) f.value)) (reply.Done 0))
exported_advances w s j f own there =
    let g : NeighbourView → NeighbourView = exporting w.opening (distance w) f.value in
    let all = all_of w (Some f.value) in
    one_queue w s j g own there (λ p. refl) (event.SetExport j f) (reply.Done 0) (λ m. refl)
    (λ k now. elim (cases_eq k j) [
      | inl is ↦
          let here = changed_here w s j g own there (λ p. refl) k is in
          let p = neighbour_at w.neighbours k in
          ap (λ b. p.queue ++ (if b then all else nothing)) (eq-eqb j k (sym is))
          ∙ sym (ap (λ (q : NeighbourView). q.queue) here
          ∙ ap (λ b. if b then p.queue ++ all else p.queue) (ap is_some now))
      | inr other ↦
          ap (λ b. (neighbour_at w.neighbours k).queue ++ (if b then all else nothing)) (ne_eqb j k (λ e. other (sym e)))
          ∙ append-nil (neighbour_at w.neighbours k).queue
          ∙ sym (ap (λ (q : NeighbourView). q.queue) (another w s j g own there (λ p. refl) k other))
    ])
    (λ nobody_has. refl)
