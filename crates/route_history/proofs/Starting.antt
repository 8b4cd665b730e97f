-- Up: a neighbour joins in a session with a new number, and is told all distances.
use Rattle.std.proofs.Common.{◌≡◌, ◌∙◌, sym, ap, refl, ℕ, ◌+◌, ◌<◌, inl, inr, ◌++◌, if◌then◌else◌, Some, None, List, [], length, append-nil, arith}
use Rattle.std.proofs.lemmas.Bool.{cases_eq, eq-eqb, ne_eqb}
use Rattle.std.proofs.lemmas.Option.{none-some, same_Some}
use Rattle.netchange_core.specs.declared.event.Event.TheVariants as event
use Rattle.netchange_core.specs.declared.message.Message.{Message}
use Rattle.netchange_core.specs.declared.reply.Reply.TheVariants as reply
use Rattle.netchange_core.specs.Best.{distance}
use Rattle.netchange_core.specs.Calls.{session_of}
use Rattle.netchange_core.specs.Next.{Answered, answered, joined}
use Rattle.netchange_core.specs.World.{NeighbourView, World, changed, neighbour_at}
use Rattle.netchange_core.proofs.Change.{changed_at}
use Rattle.netchange_core.proofs.Holders.{holder_found, holder_none}
use Rattle.route_history.specs.Sent.{all_of, queued_at, queued_for, queued_in}
use Rattle.route_history.proofs.Advances.{Advances}
use Rattle.route_history.proofs.Holders.{AreOwn}
use Rattle.route_history.proofs.Neighbours.{at_another, change_length}

module _ (w : World) (s j : ℕ) (own : AreOwn w) (there : j < length w.neighbours) (was_down : session_of w j ≡ None) where
  abbrev join : NeighbourView → NeighbourView
  join = joined w.opening (distance w) (w.sessions + 1)

  abbrev after : World
  after = record (changed w j join) { sessions = w.sessions + 1 }

  abbrev pub opened_by : Answered
  opened_by = answered after (reply.Opened (w.sessions + 1))

  joined_at : neighbour_at after.neighbours j ≡ join (neighbour_at w.neighbours j)
  joined_at = changed_at j join w.neighbours there

  session_joined : session_of after j ≡ Some (w.sessions + 1)
  session_joined = ap (λ (p : NeighbourView). p.session) joined_at

  another : (k : ℕ) → (k ≡ j → ⊥) → neighbour_at after.neighbours k ≡ neighbour_at w.neighbours k
  another k other = at_another join w.neighbours j k other

  another_session : (k : ℕ) → (k ≡ j → ⊥) → session_of after k ≡ session_of w k
  another_session k other = ap (λ (p : NeighbourView). p.session) (another k other)

  session_at_joined : (k : ℕ) → k ≡ j → session_of after k ≡ Some (w.sessions + 1)
  session_at_joined k is = ap (session_of after) is ∙ session_joined

  own_after : AreOwn after
  own_after = record {
    opened = λ k t here. elim (cases_eq k j) [
      | inl is ↦ omega (arith, same_Some (w.sessions + 1) t (sym (session_at_joined k is) ∙ here))
      | inr other ↦ omega (arith, own.opened k t (sym (another_session k other) ∙ here))
    ];
    apart = λ i k t here same. elim (cases_eq k j) [
      | inl is ↦ elim (cases_eq i j) [
        | inl at ↦ at ∙ sym is
        | inr other ↦
            absurd (omega (
              arith,
              own.opened i t (sym (another_session i other) ∙ same),
              same_Some (w.sessions + 1) t (sym (session_at_joined k is) ∙ here),
            ))
      ]
      | inr other ↦ elim (cases_eq i j) [
        | inl at ↦
            absurd (omega (
              arith,
              own.opened k t (sym (another_session k other) ∙ here),
              same_Some (w.sessions + 1) t (sym (session_at_joined i at) ∙ same),
            ))
        | inr apart ↦ own.apart i k t (sym (another_session k other) ∙ here) (sym (another_session i apart) ∙ same)
      ]
    ];
    one_a_node = change_length join w.neighbours j ∙ own.one_a_node;
  }

  queued_here : (k : ℕ) → session_of after k ≡ Some s → queued_in w s (event.Up j) opened_by ≡ queued_at w after k (event.Up j)
  queued_here k now = ap (queued_for w after (event.Up j)) (holder_found after.neighbours s k own_after.apart now)

  abbrev nothing : List Message
  nothing = []

  quiet : (k : ℕ) → (k ≡ j → ⊥) → queued_at w after k (event.Up j) ≡ nothing
  quiet k other = ap (λ b. if b then all_of w (neighbour_at w.neighbours k).exports else nothing) (ne_eqb j k (λ e. other (sym e)))

  all_told : (k : ℕ) → k ≡ j → queued_at w after k (event.Up j) ≡ (neighbour_at after.neighbours k).queue
  all_told k is =
      ap (λ b. if b then all_of w (neighbour_at w.neighbours k).exports else nothing) (eq-eqb j k (sym is))
      ∙ ap (λ i. all_of w (neighbour_at w.neighbours i).exports) is
      ∙ sym (ap (λ i. (neighbour_at after.neighbours i).queue) is ∙ ap (λ (p : NeighbourView). p.queue) joined_at)

  pub opened_advances : Advances w s (event.Up j) opened_by
  opened_advances = record {
    goes_on = λ k now before. elim (cases_eq k j) [
      | inl is ↦ absurd (none-some s (sym (ap (session_of w) is ∙ was_down) ∙ before))
      | inr other ↦
          ap (λ m. (neighbour_at w.neighbours k).queue ++ m) (queued_here k now ∙ quiet k other)
          ∙ append-nil (neighbour_at w.neighbours k).queue
          ∙ sym (ap (λ (p : NeighbourView). p.queue) (another k other))
    ];
    begins = λ k now before. elim (cases_eq k j) [
      | inl is ↦ (omega (arith, same_Some (w.sessions + 1) s (sym (session_at_joined k is) ∙ now)), refl, queued_here k now ∙ all_told k is)
      | inr other ↦ absurd (before (sym (another_session k other) ∙ now))
    ];
    is_gone = λ nobody_has. (refl, ap (queued_for w after (event.Up j)) (holder_none after.neighbours s nobody_has));
    own = own_after;
    more = omega arith;
  }
