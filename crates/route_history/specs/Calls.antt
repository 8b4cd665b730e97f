-- What the calls of a journal do. (This project's own choice.)
use Rattle.std.specs.Prelude.{◌≡◌, ℕ, [], ◌∷◌, ◌++◌, length}
use Rattle.netchange_core.specs.declared.event.Event.{Event}
use Rattle.netchange_core.specs.declared.reply.Reply.{Reply}
use Rattle.route_history.specs.declared.entry.Entry.{Entry}
use Rattle.route_history.specs.declared.fault.CallFault.{CallFault}
use Rattle.route_history.specs.declared.fault.CallFault.TheVariants as fault
use Rattle.route_history.specs.JournalView.{JournalView}

abbrev pub entry : Event → Reply → Entry
entry event reply = record { event = event; reply = reply }

-- the event is the new last entry, at this position, with this reply
pub record IsEntered (old new : JournalView) (event : Event) (at : ℕ) (reply : Reply) : Type 0 where
  pub position : at ≡ length old.entries
  pub entries : new.entries ≡ old.entries ++ entry event reply ∷ []

-- a refused call changes nothing; Full is answered exactly where as many entries as the limit stand
abbrev pub IsRefused : CallFault → JournalView → JournalView → Type 0
IsRefused fault.Full old new = (new ≡ old) × (length old.entries ≡ old.limit)
IsRefused fault.Memory old new = (new ≡ old) × (length old.entries ≡ old.limit → ⊥)
