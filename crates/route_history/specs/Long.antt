-- A journal that has only the end of its history, and the tables after all of it. (This project's own choice.)
use Rattle.std.specs.Prelude.{◌≡◌, ℕ, ◌+◌, ◌-◌, ◌<◌, ◌≤◌, true, false, List, [], ◌∷◌, ◌++◌, drop, length}
use Rattle.netchange_core.specs.declared.event.Event.{Event}
use Rattle.netchange_core.specs.declared.reply.Reply.{Reply}
use Rattle.netchange_core.specs.Next.{answered, next}
use Rattle.netchange_core.specs.OpeningView.{OpeningView}
use Rattle.netchange_core.specs.World.{World}
use Rattle.route_history.specs.declared.bounds.Bounds.{Bounds}
use Rattle.route_history.specs.declared.entry.Entry.{Entry}
use Rattle.route_history.specs.declared.fault.CallFault.{CallFault}
use Rattle.route_history.specs.declared.fault.CallFault.TheVariants as fault
use Rattle.route_history.specs.Calls.{entry}
use Rattle.route_history.specs.History.{IsLegal, world_of}
use Rattle.route_history.specs.JournalView.{JournalView}

-- how many entries it has room for and whether it may forget; how many entries of the history came before those that it has; and
-- the tables
pub record LongView : Type 0 where
  pub bounds : Bounds
  pub first : ℕ
  pub entries : List Entry
  pub tables : World

-- the journal of a history that has forgotten its first entries
abbrev pub window : OpeningView → Bounds → ℕ → List Entry → LongView
window opening bounds first log = record { bounds = bounds; first = first; entries = drop first log; tables = world_of opening log }

-- so many entries are forgotten of a history of so many: no more than there are, at most as many as there is room for are left, and
-- none where the journal may not forget
pub record IsWithin (bounds : Bounds) (first n : ℕ) : Type 0 where
  pub below : first ≤ n
  pub room : n ≤ first + bounds.limit
  pub whole : bounds.endless ≡ false → first ≡ 0

-- the journal is the end of this history
pub record IsWindow (opening : OpeningView) (bounds : Bounds) (log : List Entry) (j : LongView) : Type 0 where
  pub is : j ≡ window opening bounds j.first log
  pub opened : j.tables.opening ≡ opening
  pub within : IsWithin bounds j.first (length log)

-- this holds of each legal history that the journal may have the end of
abbrev pub OfHistory : LongView → (JournalView → Type 0) → Type 0
OfHistory j P = (opening : OpeningView) (bounds : Bounds) (log : List Entry) → IsWindow opening bounds log j → IsLegal opening log →
    P (record { opening = opening; limit = bounds.limit; entries = log })

-- what a journal keeps of its numbers
pub record AreKept (entries : List Entry) (kept limit first : ℕ) : Type 0 where
  pub count : kept ≡ length entries
  pub room : kept ≤ limit
  pub most : first ≤ 9223372036854775808

-- the event is the new last entry, at this position, with the reply of the tables
pub record IsLongEntered (old new : LongView) (event : Event) (at : ℕ) (reply : Reply) : Type 0 where
  pub position : at ≡ old.first + length old.entries
  pub below : at < 18446744073709551615
  pub bounds : new.bounds ≡ old.bounds
  pub first : new.first ≡ old.first
  pub entries : new.entries ≡ old.entries ++ entry event reply ∷ []
  pub done : next old.tables event ≡ answered new.tables reply
  pub opening : new.tables.opening ≡ old.tables.opening
  pub room : length old.entries + 1 ≤ old.bounds.limit

-- a refused call changes nothing; Full is answered exactly where as many entries as the limit stand
abbrev pub IsLongRefused : CallFault → LongView → LongView → Type 0
IsLongRefused fault.Full old new = (new ≡ old) × (length old.entries ≡ old.bounds.limit)
IsLongRefused fault.Memory old new = (new ≡ old) × (length old.entries ≡ old.bounds.limit → ⊥)

-- Entries below upto are forgotten, and none where the journal may not forget. Of those that were to go, fewer than 1024 stay, unless as many
-- were forgotten as ever can be.
pub record IsForgotten (old new : LongView) (upto : ℕ) : Type 0 where
  pub bounds : new.bounds ≡ old.bounds
  pub tables : new.tables ≡ old.tables
  pub on : old.first ≤ new.first
  pub below : new.first ≤ old.first + length old.entries
  pub entries : new.entries ≡ drop (new.first - old.first) old.entries
  pub asked : (new.first ≡ old.first → ⊥) → new.first ≤ upto
  pub whole : old.bounds.endless ≡ false → new.first ≡ old.first
  pub frees : old.bounds.endless ≡ true → old.first + length old.entries ≤ 9223372036854775808 → upto ≤ old.first + length old.entries →
      upto < new.first + 1024
