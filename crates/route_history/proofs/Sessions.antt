-- What a session was sent and what it took, along a history.
use Rattle.std.proofs.Common.{◌≡◌, ◌∙◌, sym, ap, subst, refl, ℕ, zero, suc, ◌<◌, ◌≤◌, inl, inr, Option, Some}
use Rattle.std.proofs.Common.{None, List, [], ◌∷◌, ◌++◌, replicate, append_assoc, append-nil, arith}
use Rattle.std.proofs.lemmas.List.{length-replicate}
use Rattle.std.proofs.lemmas.Option.{none-some}
use Rattle.netchange_core.specs.declared.event.Event.{Event}
use Rattle.netchange_core.specs.declared.message.Message.{Message}
use Rattle.netchange_core.specs.Calls.{carried, newcomer, opened, session_of}
use Rattle.netchange_core.specs.Next.{Answered, next}
use Rattle.netchange_core.specs.OpeningView.{OpeningView}
use Rattle.netchange_core.specs.World.{World, holder, neighbour_at}
use Rattle.netchange_core.proofs.Holders.{cases_session, found_holds, holder_found}
use Rattle.route_history.specs.declared.entry.Entry.{Entry}
use Rattle.route_history.specs.Beginning.{Begins}
use Rattle.route_history.specs.History.{IsLegal, IsLegalFrom, world_after, world_of}
use Rattle.route_history.specs.Laws.{TakesWhatWasSent}
use Rattle.route_history.specs.Sent.{queued_by, queued_in, sent, sent_from, taken, taken_by, taken_with}
use Rattle.route_history.proofs.Advances.{Advances, took_in}
use Rattle.route_history.proofs.Events.{event_advances}
use Rattle.route_history.proofs.Histories.{legal_append, sent_append, taken_append}
use Rattle.route_history.proofs.Holders.{AreOwn}

-- so much was sent to a session, and so much was taken
pub record IsKept (w : World) (s : ℕ) (sent_so_far taken_so_far : List Message) : Type 0 where
  pub begins : Begins taken_so_far sent_so_far
  pub waits : (k : ℕ) → session_of w k ≡ Some s → sent_so_far ≡ taken_so_far ++ (neighbour_at w.neighbours k).queue
  pub unopened : w.sessions < s → (sent_so_far ≡ []) × (taken_so_far ≡ [])

goes_on : (a q b t r : List Message) → a ≡ b ++ q → (n : List Message) → q ++ n ≡ t ++ r → a ++ n ≡ (b ++ t) ++ r
goes_on a q b t r e n f = ap (λ (x : List Message). x ++ n) e ∙ append_assoc b q n ∙ ap (λ x. b ++ x) f ∙ sym (append_assoc b t r)

module _ (w : World) (s : ℕ) (e : Event) (a : Answered) (S T : List Message) (own : AreOwn w)
    (kept : IsKept w s S T) (step : Advances w s e a) where
  waits_now : (k : ℕ) → session_of a.world k ≡ Some s → S ++ queued_in w s e a ≡ (T ++ took_in s e a) ++ (neighbour_at a.world.neighbours k).queue
  waits_now k now = elim (cases_session (session_of w k) s) [
    | inl before ↦ goes_on S (neighbour_at w.neighbours k).queue T (took_in s e a) (neighbour_at a.world.neighbours k).queue
        (kept.waits k before) (queued_in w s e a) (step.goes_on k now before)
    | inr new ↦
        let b = step.begins k now new in
        let none = kept.unopened b.0 in
        (λ i. none.0 i ++ b.2 i) ∙ sym (λ i. (none.1 i ++ b.1 i) ++ (neighbour_at a.world.neighbours k).queue)
  ]

  begins_held : (o : Option ℕ) → holder a.world s ≡ o → Begins (T ++ took_in s e a) (S ++ queued_in w s e a)
  begins_held (Some k) h = record {
    rest = (neighbour_at a.world.neighbours k).queue;
    is = waits_now k (found_holds a.world.neighbours s k h).1;
  }
  begins_held None h =
      let quiet = step.is_gone (λ k now. none-some k (sym h ∙ holder_found a.world.neighbours s k step.own.apart now)) in
      record {
        rest = kept.begins.rest;
        is = (λ i. S ++ quiet.1 i) ∙ append-nil S ∙ kept.begins.is
            ∙ sym (ap (λ (x : List Message). x ++ kept.begins.rest) ((λ i. T ++ quiet.0 i) ∙ append-nil T));
      }

  none_yet : a.world.sessions < s → (S ++ queued_in w s e a ≡ []) × (T ++ took_in s e a ≡ [])
  none_yet h =
      let none = kept.unopened (omega (arith, step.more)) in
      let quiet = step.is_gone (λ k now. absurd (omega (arith, step.own.opened k s now))) in
      ((λ i. none.0 i ++ quiet.1 i), (λ i. none.1 i ++ quiet.0 i))

  pub kept_on : IsKept a.world s (S ++ queued_in w s e a) (T ++ took_in s e a)
  kept_on = record {
    begins = begins_held (holder a.world s) refl;
    waits = waits_now;
    unopened = none_yet;
  }

-- along a list of entries
keeps_on : (w : World) (s : ℕ) (es : List Entry) (S T : List Message) → AreOwn w → IsKept w s S T → IsLegalFrom w es →
    IsKept (world_after w es) s (S ++ sent_from w es s) (T ++ taken es s) × AreOwn (world_after w es)
keeps_on w s [] S T own kept legal =
    (subst (λ (p : List Message × List Message). IsKept w s p.0 p.1) (λ i. (sym (append-nil S) i, sym (append-nil T) i)) kept, own)
keeps_on w s (e ∷ es) S T own kept legal =
    let step = event_advances w s own e.event in
    let now = kept_on w s e.event (next w e.event) S T own kept step in
    let took : taken_by s e ≡ took_in s e.event (next w e.event) = ap (λ r. taken_with e.event s (carried r)) (sym legal.0) in
    let on = keeps_on (next w e.event).world s es (S ++ queued_by w s e.event) (T ++ took_in s e.event (next w e.event)) step.own now legal.1 in (
      subst (λ (p : List Message × List Message). IsKept (world_after w (e ∷ es)) s p.0 p.1)
          (λ i. (
            append_assoc S (queued_by w s e.event) (sent_from (next w e.event).world es s) i,
            (append_assoc T (took_in s e.event (next w e.event)) (taken es s) ∙ (λ j. T ++ (sym took j ++ taken es s))) i,
          ))
          on.0,
      on.1,
    )

-- a session that is over is sent nothing and takes nothing
over : (w : World) (s : ℕ) (es : List Entry) → AreOwn w → s ≤ w.sessions → ((k : ℕ) → session_of w k ≡ Some s → ⊥) → IsLegalFrom w es →
    (sent_from w es s ≡ []) × (taken es s ≡ [])
over w s [] own old none legal = (refl, refl)
over w s (e ∷ es) own old none legal =
    let step = event_advances w s own e.event in
    let none_now : (k : ℕ) → session_of (next w e.event).world k ≡ Some s → ⊥ = λ k now. absurd (omega (arith, (step.begins k now (none k)).0)) in
    let quiet = step.is_gone none_now in
    let took : taken_by s e ≡ [] = ap (λ r. taken_with e.event s (carried r)) (sym legal.0) ∙ quiet.0 in
    let rest = over (next w e.event).world s es step.own (omega (arith, step.more)) none_now legal.1 in
    ((λ i. quiet.1 i ++ rest.0 i), (λ i. took i ++ rest.1 i))

down_at_first : (opening : OpeningView) (k : ℕ) → session_of (opened opening) k ≡ None
down_at_first opening k = down_in opening.size k
  where
    down_in : (n k : ℕ) → (neighbour_at (replicate n (newcomer opening)) k).session ≡ None
    down_in zero k = refl
    down_in (suc n) zero = refl
    down_in (suc n) (suc k) = down_in n k

own_at_first : (opening : OpeningView) → AreOwn (opened opening)
own_at_first opening = record {
  opened = λ k t here. absurd (none-some t (sym (down_at_first opening k) ∙ here));
  apart = λ j k t here same. absurd (none-some t (sym (down_at_first opening k) ∙ here));
  one_a_node = length-replicate opening.size (newcomer opening);
}

kept_at_first : (opening : OpeningView) (s : ℕ) → IsKept (opened opening) s [] []
kept_at_first opening s = record {
  begins = record { rest = []; is = refl };
  waits = λ k here. absurd (none-some s (sym (down_at_first opening k) ∙ here));
  unopened = λ _. (refl, refl);
}

-- what a session took begins what it was sent, in every legal history
pub takes_what_was_sent : (opening : OpeningView) (es : List Entry) (s : ℕ) → IsLegal opening es → TakesWhatWasSent opening es s
takes_what_was_sent opening es s legal =
    let on = keeps_on (opened opening) s es [] [] (own_at_first opening) (kept_at_first opening s) legal in
    record {
      begins = on.0.begins;
      waits = on.0.waits;
      stays = λ old none more longer.
          let rest = (legal_append (opened opening) es more longer).1 in
          let quiet = over (world_of opening es) s more on.1 old none rest in (
            sent_append (opened opening) es more s ∙ (λ i. sent opening es s ++ quiet.0 i) ∙ append-nil (sent opening es s),
            taken_append es more s ∙ (λ i. taken es s ++ quiet.1 i) ∙ append-nil (taken es s),
          );
    }
