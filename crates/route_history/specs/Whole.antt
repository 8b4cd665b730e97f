-- What an entry is that is shown where it stands.
use Rattle.netchange_core.specs.Whole.{whole_reply}
use Rattle.route_history.specs.declared.entry.Entry.{Entry}
use Rattle.route_history.specs.declared.entry.EntryRef.{EntryRef}

-- the entry, with its messages
abbrev pub whole_entry : EntryRef → Entry
whole_entry e = record { event = e.event.now; reply = whole_reply e.reply }
