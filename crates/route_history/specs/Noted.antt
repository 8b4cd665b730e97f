-- How entries are kept: the messages of all replies stand one after another, and a reply keeps where its own begin and how many they are.
use Rattle.std.specs.Prelude.{◌+◌, ◌≤◌, List, All, length, map, slice_range, ⊤}
use Rattle.netchange_core.specs.declared.message.Message.{Message}
use Rattle.netchange_core.specs.declared.reply.Reply.{Reply}
use Rattle.netchange_core.specs.declared.reply.Reply.TheVariants as reply
use Rattle.route_history.specs.declared.entries.Kept.{Kept}
use Rattle.route_history.specs.declared.entries.Kept.TheVariants as kept
use Rattle.route_history.specs.declared.entries.Note.{Note}
use Rattle.route_history.specs.declared.entry.Entry.{Entry}

-- a reply, whose messages stand among all of them
abbrev pub kept_reply : List Message → Kept → Reply
kept_reply all (kept.Opened session) = reply.Opened session
kept_reply all (kept.Done changed) = reply.Done changed
kept_reply all (kept.Messages count first) = reply.Messages (slice_range all first (first + count))
kept_reply all (kept.Route dist via) = reply.Route dist via
kept_reply all (kept.Refused why) = reply.Refused why

-- as many messages as it has do stand there
abbrev pub StandsIn : List Message → Kept → Type 0
StandsIn all (kept.Messages count first) = first + count ≤ length all
StandsIn all _ = ⊤

-- an entry, and a list of them
abbrev pub kept_entry : List Message → Note → Entry
kept_entry all note = record { event = note.event; reply = kept_reply all note.reply }

abbrev pub kept_entries : List Message → List Note → List Entry
kept_entries all notes = map (kept_entry all) notes

abbrev pub HaveMessagesIn : List Message → List Note → Type 0
HaveMessagesIn all notes = All (λ note. StandsIn all note.reply) notes
