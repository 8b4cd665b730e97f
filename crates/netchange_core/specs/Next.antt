-- What an event makes of a world, and what is replied to it. (Tel's Netchange; the messages that are queued at an export
-- filter's change, sessions, filters and the order of the refusals are this project's own choice.)
use Rattle.std.specs.Prelude.{ℕ, suc, zero, ◌+◌, ◌-◌, ◌^◌, ◌==◌, nat_lt, nat_le, Bool, ◌||◌, if◌then◌else◌, Option}
use Rattle.std.specs.Prelude.{Some, None, List, [], ◌∷◌, ◌++◌, map, replicate, take, drop, slice_set}
use Rattle.filter_verifier.specs.VerifiedView.{VerifiedView}
use Rattle.netchange_core.specs.declared.event.Event.{Event}
use Rattle.netchange_core.specs.declared.event.Event.TheVariants as event
use Rattle.netchange_core.specs.declared.message.Message.{Message}
use Rattle.netchange_core.specs.declared.reply.EventRefusal.{EventRefusal}
use Rattle.netchange_core.specs.declared.reply.EventRefusal.TheVariants as refusal
use Rattle.netchange_core.specs.declared.reply.Reply.{Reply}
use Rattle.netchange_core.specs.declared.reply.Reply.TheVariants as reply
use Rattle.netchange_core.specs.Best.{best, distance}
use Rattle.netchange_core.specs.OpeningView.{OpeningView}
use Rattle.netchange_core.specs.FilteredDistance.{filtered_distance}
use Rattle.netchange_core.specs.World.{NeighbourView, World, changed, holder, is_up, neighbour_at}

-- the world and the reply after an event
pub record Answered : Type 0 where
  pub world : World
  pub reply : Reply

abbrev pub answered : World → Reply → Answered
answered w r = record { world = w; reply = r }

-- a refused event changes nothing
abbrev pub refused : World → EventRefusal → Answered
refused w why = answered w (reply.Refused why)

-- the message that tells a neighbour with this export filter a distance
abbrev pub message_of : OpeningView → Option VerifiedView → ℕ → ℕ → Message
message_of o exports v d = record { dest = v; dist = filtered_distance o exports v d }

-- a neighbour, after the distance to a node was queued for it if it is up
abbrev pub tell : OpeningView → ℕ → ℕ → NeighbourView → NeighbourView
tell o v d n = if is_up n then record n { queue = n.queue ++ message_of o n.exports v d ∷ [] } else n

-- The neighbours, after the distance to each node below a number was queued for them where it is another than it was, from
-- node 0 upwards; and how many these nodes are. A changed next hop alone tells nothing.
abbrev pub tell_changes : OpeningView → (ℕ → ℕ) → (ℕ → ℕ) → ℕ → List NeighbourView → List NeighbourView
tell_changes o old new zero ns = ns
tell_changes o old new (suc v) ns =
    if old v == new v then tell_changes o old new v ns else map (tell o v (new v)) (tell_changes o old new v ns)

abbrev pub count_changes : (ℕ → ℕ) → (ℕ → ℕ) → ℕ → ℕ
count_changes old new zero = 0
count_changes old new (suc v) = if old v == new v then count_changes old new v else count_changes old new v + 1

-- from an old world to a new one: each distance that changed is told
abbrev pub recomputed : World → World → Answered
recomputed old new = answered
    (record new { neighbours = tell_changes new.opening (distance old) (distance new) new.opening.size new.neighbours })
    (reply.Done (count_changes (distance old) (distance new) new.opening.size))

-- the messages that tell the distances to all nodes below a number, from node 0 upwards
abbrev pub all_messages : OpeningView → Option VerifiedView → (ℕ → ℕ) → ℕ → List Message
all_messages o exports dist zero = []
all_messages o exports dist (suc v) = all_messages o exports dist v ++ message_of o exports v (dist v) ∷ []

-- nothing is known to be reached
abbrev pub unreached : OpeningView → List ℕ
unreached o = replicate o.size o.size

-- Up: a neighbour joins in a session. It told nothing yet, and is told all distances.
abbrev pub joined : OpeningView → (ℕ → ℕ) → ℕ → NeighbourView → NeighbourView
joined o dist session n = record n {
  session = Some session;
  advertised = unreached o;
  queue = all_messages o n.exports dist o.size;
}

-- Down: a neighbour leaves, and its queue is dropped. Its filters stay.
abbrev pub gone : OpeningView → NeighbourView → NeighbourView
gone o n = record n { session = None; advertised = unreached o; queue = [] }

-- Receive: a neighbour advertises a distance to a node
abbrev pub advertising : ℕ → ℕ → NeighbourView → NeighbourView
advertising v d n = record n { advertised = slice_set n.advertised v d }

-- Take: the first messages leave the queue
abbrev pub dequeued : ℕ → NeighbourView → NeighbourView
dequeued max n = record n { queue = drop max n.queue }

-- SetImport: a filter of what a neighbour tells, also of what it told before
abbrev pub importing : VerifiedView → NeighbourView → NeighbourView
importing f n = record n { imports = Some f }

-- SetExport: a filter of what a neighbour is told. If it is up, it is told all distances again.
abbrev pub exporting : OpeningView → (ℕ → ℕ) → VerifiedView → NeighbourView → NeighbourView
exporting o dist f n = record n {
  exports = Some f;
  queue = if is_up n then n.queue ++ all_messages o (Some f) dist o.size else n.queue;
}

-- a number that no neighbour has
abbrev pub is_no_neighbour : OpeningView → ℕ → Bool
is_no_neighbour o k = nat_le o.size k || (k == o.me)

-- the last number that a session can have
abbrev pub last_session : ℕ
last_session = 2 ^ 32 - 1

abbrev pub up : World → ℕ → Answered
up w k =
    if is_no_neighbour w.opening k then refused w refusal.NoNode
    else (if is_up (neighbour_at w.neighbours k) then refused w refusal.AlreadyUp
    else (if w.sessions == last_session then refused w refusal.NoSession
    else answered (record (changed w k (joined w.opening (distance w) (w.sessions + 1))) { sessions = w.sessions + 1 })
    (reply.Opened (w.sessions + 1))))

abbrev pub down : World → Option ℕ → Answered
down w None = refused w refusal.Stale
down w (Some k) = recomputed w (changed w k (gone w.opening))

abbrev pub receive : World → Option ℕ → ℕ → ℕ → Answered
receive w None v d = refused w refusal.Stale
receive w (Some k) v d =
    if nat_le w.opening.size v then refused w refusal.BadDest
    else (if nat_lt w.opening.size d then refused w refusal.BadDist
    else recomputed w (changed w k (advertising v d)))

abbrev pub take_from : World → Option ℕ → ℕ → Answered
take_from w None max = refused w refusal.Stale
take_from w (Some k) max =
    answered (changed w k (dequeued max)) (reply.Messages (take max (neighbour_at w.neighbours k).queue))

abbrev pub set_import : World → ℕ → VerifiedView → Answered
set_import w k f =
    if is_no_neighbour w.opening k then refused w refusal.NoNode
    else (if f.size == w.opening.size then recomputed w (changed w k (importing f))
    else refused w refusal.OtherSize)

abbrev pub set_export : World → ℕ → VerifiedView → Answered
set_export w k f =
    if is_no_neighbour w.opening k then refused w refusal.NoNode
    else (if f.size == w.opening.size
    then answered (changed w k (exporting w.opening (distance w) f)) (reply.Done 0)
    else refused w refusal.OtherSize)

abbrev pub show : World → ℕ → Answered
show w v =
    if nat_le w.opening.size v then refused w refusal.BadDest
    else answered w (reply.Route (best w v).dist (best w v).via)

-- the world and the reply after an event
abbrev pub next : World → Event → Answered
next w (event.Up k) = up w k
next w (event.Down s) = down w (holder w s)
next w (event.Receive s v d) = receive w (holder w s) v d
next w (event.Take s max) = take_from w (holder w s) max
next w (event.SetImport k f) = set_import w k f.value
next w (event.SetExport k f) = set_export w k f.value
next w (event.Show v) = show w v
