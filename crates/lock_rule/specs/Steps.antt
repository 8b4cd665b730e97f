-- What the steps of the lock tell the seat that makes them. (This project's own choice.)
use Rattle.std.specs.Prelude.{◌≡◌, ◌≢◌, ℕ, ◌+◌, ◌-◌, ◌<◌, ◌≤◌, Some, List, [], ◌∷◌, ◌++◌, drop, length, max}
use Rattle.atomic_table.specs.Table.{Me}
use Rattle.netchange_core.specs.OpeningView.{OpeningView}
use Rattle.route_history.specs.declared.bounds.Bounds.{Bounds}
use Rattle.route_history.specs.declared.entry.Entry.{Entry}
use Rattle.route_history.specs.Beginning.{Begins}
use Rattle.route_history.specs.History.{IsLegal}
use Rattle.route_history.specs.Long.{IsWindow, LongView}
use Rattle.route_history.specs.Positions.{times}
use Rattle.lock_rule.specs.declared.rule.Fragment.{Fragment}
use Rattle.lock_rule.specs.declared.rule.View.{View}
use Rattle.lock_rule.specs.Views.{all_shares, empty_fragment, held_history, longer, released, released_at, released_with, shares_of, with_failed_tries, with_held}

abbrev pub Seated : Type 0
Seated = Me LongView View

-- the seat holds the lock: it has the journal, and knows the history that it acquired, of which the journal has the end
pub record IsHolding (m : Seated) : Type 0 where
  pub opening : OpeningView
  pub bounds : Bounds
  pub log : List Entry
  pub journal : LongView
  pub slots : m.1 ≡ (0, journal) ∷ []
  pub window : IsWindow opening bounds log journal
  pub some_shares : 0 < shares_of m.0
  pub held : m.0.held ≡ Some log
  pub held_first : m.0.held_first ≡ journal.first
  pub forgot : m.0.fragment.forgot ≤ journal.first
  pub right : 0 < m.0.right → journal.first ≤ m.0.fragment.forgot
  pub about : m.0.about ≡ Some (opening, bounds)
  pub legal : IsLegal opening log

-- the seat has acquired the lock, and the history goes on from what the seat has seen.
-- Whoever has all shares has seen all of it, since nobody else can have entered anything.
pub record Acquired (m w : Seated) : Type 0 where
  pub holding : IsHolding w
  pub view : w.0 ≡ with_held m.0 holding.log holding.journal.first
  pub begins : Begins m.0.fragment.seen holding.log
  pub alone : m.0.incoming ≡ empty_fragment → m.0.fragment.shares ≡ all_shares → holding.log ≡ m.0.fragment.seen

-- the try found the lock held, by another that has shares
pub record FoundHeld (m w : Seated) : Type 0 where
  pub slots : w.1 ≡ m.1
  pub view : w.0 ≡ with_failed_tries 1 m.0
  pub others : shares_of m.0 ≢ all_shares

-- a try that found this word
pub record TriesAcquire (m : Seated) (n : ℕ) (w : Seated) : Type 0 where
  pub acquired : n ≡ 0 → Acquired m w
  pub found_held : n ≢ 0 → FoundHeld m w

-- the last entry, as a list
abbrev pub last_entry : List Entry → List Entry
last_entry es = drop (length es - 1) es

-- the last entry of the journal that a seat has
abbrev pub slot_last : List (ℕ × LongView) → List Entry
slot_last [] = []
slot_last (x ∷ xs) = last_entry x.1.entries

-- how many entries the journal that a seat has has forgotten
abbrev pub slot_first : List (ℕ × LongView) → ℕ
slot_first [] = 0
slot_first (x ∷ xs) = x.1.first

abbrev pub after_release_entered : Seated → Seated
after_release_entered m = (released_with m.0 (held_history m.0 ++ slot_last m.1) (m.0.fragment.mine ++ length (held_history m.0) ∷ []), [])

abbrev pub after_release_seen : Seated → Seated
after_release_seen m = (released_at m.0 (held_history m.0) m.0.fragment.mine (slot_first m.1), [])

abbrev pub after_release : Seated → Seated
after_release m = (released m.0, [])

-- two fragments of one history: each begins the longer, no position is in both, and they have no more than all shares
pub record Agree (p q : Fragment) : Type 0 where
  pub first : Begins p.seen (longer p.seen q.seen)
  pub second : Begins q.seen (longer p.seen q.seen)
  pub apart : (x : ℕ) → times x p.mine + times x q.mine ≤ 1
  pub shares : p.shares + q.shares ≤ all_shares

-- two fragments in one
abbrev pub merged : Fragment → Fragment → Fragment
merged p q = record {
  seen = longer p.seen q.seen;
  mine = p.mine ++ q.mine;
  failed_tries = p.failed_tries + q.failed_tries;
  shares = p.shares + q.shares;
  forgot = max p.forgot q.forgot;
}

abbrev pub with_seen : Fragment → List Entry → Fragment
with_seen p seen = record p { seen = seen }

-- the incoming fragment is merged into the seat's own
pub record Merges (m w : Seated) : Type 0 where
  pub after : w ≡ (record m.0 { fragment = merged m.0.fragment m.0.incoming; incoming = empty_fragment }, m.1)
  pub agree : Agree m.0.fragment m.0.incoming

-- both fragments have seen the longer history
pub record Meets (m w : Seated) : Type 0 where
  pub after : w ≡ (
    record m.0 {
      fragment = with_seen m.0.fragment (longer m.0.fragment.seen m.0.incoming.seen);
      incoming = with_seen m.0.incoming (longer m.0.fragment.seen m.0.incoming.seen);
    },
    m.1,
  )
  pub agree : Agree m.0.fragment m.0.incoming
