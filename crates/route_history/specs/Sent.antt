-- What a session was queued, and what it took. (This project's own choice.)
use Rattle.std.specs.Prelude.{ℕ, zero, suc, ◌==◌, if◌then◌else◌, Option, Some, None, List, [], ◌∷◌, ◌++◌}
use Rattle.filter_verifier.specs.VerifiedView.{VerifiedView}
use Rattle.netchange_core.specs.declared.event.Event.{Event}
use Rattle.netchange_core.specs.declared.event.Event.TheVariants as event
use Rattle.netchange_core.specs.declared.message.Message.{Message}
use Rattle.netchange_core.specs.declared.reply.Reply.{Reply}
use Rattle.netchange_core.specs.declared.reply.Reply.TheVariants as reply
use Rattle.netchange_core.specs.Best.{distance}
use Rattle.netchange_core.specs.Calls.{carried, opened}
use Rattle.netchange_core.specs.Next.{Answered, all_messages, message_of, next}
use Rattle.netchange_core.specs.OpeningView.{OpeningView}
use Rattle.netchange_core.specs.World.{NeighbourView, World, holder, neighbour_at}
use Rattle.route_history.specs.declared.entry.Entry.{Entry}

-- the messages that tell a neighbour with this export filter each distance below a node that changed, from node 0 upwards
abbrev pub news : OpeningView → Option VerifiedView → (ℕ → ℕ) → (ℕ → ℕ) → ℕ → List Message
news o exports old new zero = []
news o exports old new (suc v) =
    if old v == new v then news o exports old new v else news o exports old new v ++ message_of o exports v (new v) ∷ []

-- all distances that differ between two worlds, for a neighbour of the second
abbrev pub changes_for : World → World → NeighbourView → List Message
changes_for old new n = news new.opening n.exports (distance old) (distance new) new.opening.size

-- all distances of a world, under an export filter
abbrev pub all_of : World → Option VerifiedView → List Message
all_of w exports = all_messages w.opening exports (distance w) w.opening.size

-- What an event that is not refused queues for node k between two worlds: all distances where the event is the node's Up or
-- sets its export filter, and else those that changed.
abbrev pub queued_at : World → World → ℕ → Event → List Message
queued_at old new k (event.Up j) = if j == k then all_of old (neighbour_at old.neighbours k).exports else []
queued_at old new k (event.SetExport j f) = if j == k then all_of old (Some f.value) else []
queued_at old new k (event.Down s) = changes_for old new (neighbour_at new.neighbours k)
queued_at old new k (event.Receive s v d) = changes_for old new (neighbour_at new.neighbours k)
queued_at old new k (event.SetImport j f) = changes_for old new (neighbour_at new.neighbours k)
queued_at old new k _ = []

-- what it queues for a session: nothing where the session is not present afterwards
abbrev pub queued_for : World → World → Event → Option ℕ → List Message
queued_for old new e None = []
queued_for old new e (Some k) = queued_at old new k e

-- a refused event queues nothing
abbrev pub unless_refused : Reply → List Message → List Message
unless_refused (reply.Refused why) messages = []
unless_refused _ messages = messages

-- what an event that is so answered queues for a session
abbrev pub queued_in : World → ℕ → Event → Answered → List Message
queued_in w s e a = unless_refused a.reply (queued_for w a.world e (holder a.world s))

-- what an event queues for a session
abbrev pub queued_by : World → ℕ → Event → List Message
queued_by w s e = queued_in w s e (next w e)

-- all that a list of entries queued for a session, in order
abbrev pub sent_from : World → List Entry → ℕ → List Message
sent_from w [] s = []
sent_from w (e ∷ es) s = queued_by w s e.event ++ sent_from (next w e.event).world es s

abbrev pub sent : OpeningView → List Entry → ℕ → List Message
sent opening es s = sent_from (opened opening) es s

-- what an entry took from the queue of a session: the messages of the reply, if it is a Take of that session
abbrev pub taken_with : Event → ℕ → List Message → List Message
taken_with (event.Take t max) s messages = if t == s then messages else []
taken_with _ s messages = []

abbrev pub taken_by : ℕ → Entry → List Message
taken_by s e = taken_with e.event s (carried e.reply)

-- all that a session took in a list of entries, in order
abbrev pub taken : List Entry → ℕ → List Message
taken [] s = []
taken (e ∷ es) s = taken_by s e ++ taken es s
