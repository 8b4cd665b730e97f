-- What a seat that holds the lock does with the journal before it releases it. (This project's own choice.)
use Rattle.std.specs.Prelude.{◌≡◌, ℕ, ◌+◌, ◌<◌, ◌≤◌, false, None, Some, [], ◌∷◌, ◌++◌, length}
use Rattle.atomic_table.specs.Seated.{TableId}
use Rattle.netchange_core.specs.OpeningView.{OpeningView}
use Rattle.netchange_core.specs.declared.event.Event.{Event}
use Rattle.route_history.specs.declared.bounds.Bounds.{Bounds}
use Rattle.route_history.specs.declared.fault.CallFault.{CallFault}
use Rattle.route_history.specs.declared.fault.CallFault.TheVariants as fault
use Rattle.route_history.specs.Calls.{entry}
use Rattle.route_history.specs.History.{IsLegal}
use Rattle.route_history.specs.JournalView.{JournalView}
use Rattle.route_history.specs.Long.{IsForgotten, IsWithin, LongView}
use Rattle.netchange_core.specs.declared.reply.Reply.{Reply}
use Rattle.lock_rule.specs.Steps.{Agree, Seated, with_seen}
pub use Rattle.lock_rule.specs.Steps.{IsHolding}
use Rattle.lock_rule.specs.Views.{empty_fragment, held_history, longer, released, released_at, released_with}

-- the seat is one of this table, which has one word and one slot
pub record IsAtTable (table seat : TableId) : Type 0 where
  pub same : seat ≡ table
  pub words : table.words ≡ 1
  pub slots : table.slots ≡ 1

-- the event is the new last entry of the history acquired, and its position is the caller's
pub record Enters (m : Seated) (event : Event) (at : ℕ) (reply : Reply) (w : Seated) : Type 0 where
  pub position : at ≡ length (held_history m.0)
  pub below : at < 18446744073709551615
  pub after : w ≡ (released_with m.0 (held_history m.0 ++ entry event reply ∷ []) (m.0.fragment.mine ++ at ∷ []), [])
  pub legal : (opening : OpeningView) (bounds : Bounds) → m.0.about ≡ Some (opening, bounds) → IsLegal opening (held_history m.0 ++ entry event reply ∷ [])

-- the history acquired was seen, and leaves no room behind the entries that are forgotten; none are where the router is not endless
pub record IsFull (m w : Seated) : Type 0 where
  pub first : ℕ
  pub now : w ≡ (released_at m.0 (held_history m.0) m.0.fragment.mine first, [])
  pub on : m.0.fragment.forgot ≤ first
  pub full : (opening : OpeningView) (bounds : Bounds) → m.0.about ≡ Some (opening, bounds) →
      (length (held_history m.0) ≡ first + bounds.limit) × (bounds.endless ≡ false → first ≡ 0)

-- nothing is entered; Full shows the history acquired, which leaves no room
abbrev pub EntersNot : CallFault → Seated → Seated → Type 0
EntersNot fault.Full m w = IsFull m w
EntersNot fault.Memory m w = w ≡ (released m.0, [])

-- the observer saw the history acquired, and how many of its entries are forgotten, which is what the seat knows if it has the right to
-- forget; nothing is entered
pub record Observes {Seer : Type 0} (sees : Seer → ℕ → JournalView → Seer → Type 0) (m : Seated) (before after : Seer) (w : Seated) : Type 0 where
  pub first : ℕ
  pub saw : (opening : OpeningView) (bounds : Bounds) → m.0.about ≡ Some (opening, bounds) →
      sees before first (record { opening = opening; limit = bounds.limit; entries = held_history m.0 }) after
  pub within : (opening : OpeningView) (bounds : Bounds) → m.0.about ≡ Some (opening, bounds) → IsWithin bounds first (length (held_history m.0))
  pub now : w ≡ (released_at m.0 (held_history m.0) m.0.fragment.mine first, [])
  pub on : m.0.fragment.forgot ≤ first
  pub exact : 0 < m.0.right → first ≡ m.0.fragment.forgot

-- the history acquired was seen, and of the journal that the seat had entries below upto are forgotten, behind those that the seat knew to
-- be; so many are forgotten in all
pub record Forgets (m : Seated) (upto count : ℕ) (w : Seated) : Type 0 where
  pub journal : LongView
  pub slots : m.1 ≡ (0, journal) ∷ []
  pub after : LongView
  pub forgotten : IsForgotten journal after upto
  pub counted : count ≡ after.first
  pub exact : journal.first ≡ m.0.fragment.forgot
  pub now : w ≡ (released_at m.0 (held_history m.0) m.0.fragment.mine count, [])

-- two seats after they met: each has seen the longer history
pub record IsMet (m v w u : Seated) : Type 0 where
  pub first : w ≡ (record m.0 { fragment = with_seen m.0.fragment (longer m.0.fragment.seen v.0.fragment.seen); incoming = empty_fragment }, m.1)
  pub second : u ≡ (
    record m.0 { held = None; right = 0; fragment = with_seen v.0.fragment (longer m.0.fragment.seen v.0.fragment.seen); incoming = empty_fragment },
    [],
  )
  pub agree : Agree m.0.fragment v.0.fragment
