-- What a text shows of an event, an entry and a history. (This project's own choice.)
use Rattle.std.specs.Prelude.{ℕ, List}
use Rattle.filter_verifier.specs.VerifiedView.{VerifiedView}
use Rattle.netchange_core.specs.OpeningView.{OpeningView}
use Rattle.netchange_core.specs.declared.event.Event.{Event}
use Rattle.netchange_core.specs.declared.event.Event.TheVariants as event
use Rattle.netchange_core.specs.declared.reply.Reply.{Reply}
use Rattle.route_history.specs.declared.entry.Entry.{Entry}

-- an event, where a filter is its code and the size that it was verified for
pub data EventView : Type 0 where
  Up : ℕ → EventView
  Down : ℕ → EventView
  Receive : ℕ → ℕ → ℕ → EventView
  Take : ℕ → ℕ → EventView
  SetImport : ℕ → VerifiedView → EventView
  SetExport : ℕ → VerifiedView → EventView
  Show : ℕ → EventView

abbrev pub event_view : Event → EventView
event_view (event.Up node) = Up node
event_view (event.Down session) = Down session
event_view (event.Receive session dest dist) = Receive session dest dist
event_view (event.Take session max) = Take session max
event_view (event.SetImport node filter) = SetImport node filter.value
event_view (event.SetExport node filter) = SetExport node filter.value
event_view (event.Show node) = Show node

-- an event so seen, and the reply to it
pub record EntryView : Type 0 where
  pub event : EventView
  pub reply : Reply

abbrev pub entry_view : Entry → EntryView
entry_view e = record { event = event_view e.event; reply = e.reply }

-- what the router was opened with, the most entries that the history takes, and its entries in order
pub record HistoryView : Type 0 where
  pub opening : OpeningView
  pub limit : ℕ
  pub entries : List EntryView
