-- What has to be noted of a history, so that no writer sleeps while something waits for its neighbour. (This project's own choice.)
use Rattle.std.specs.Prelude.{◌≡◌, ◌⊎◌, ℕ, ◌+◌, ◌<◌, ◌==◌, nat_lt, Bool, true, false, Some, List, [], ◌∷◌, ◌++◌, length}
use Rattle.netchange_core.specs.declared.event.Event.{Event}
use Rattle.netchange_core.specs.declared.event.Event.TheVariants as event
use Rattle.netchange_core.specs.declared.message.Message.{Message}
use Rattle.netchange_core.specs.declared.reply.Reply.{Reply}
use Rattle.netchange_core.specs.declared.reply.Reply.TheVariants as reply
use Rattle.netchange_core.specs.Calls.{carried}
use Rattle.netchange_core.specs.OpeningView.{OpeningView}
use Rattle.netchange_core.specs.World.{World, holder, neighbour_at}
use Rattle.route_history.specs.declared.entry.Entry.{Entry}
use Rattle.route_history.specs.History.{world_of}
use Rattle.router_daemon.specs.declared.waiting.Waiting.{Waiting}

-- a reply that says that a distance changed: something is queued for each neighbour then
abbrev pub tells_all : Reply → Bool
tells_all (reply.Done changed) = nat_lt 0 changed
tells_all _ = false

-- an event, and its reply, that queue all distances for one node: its Up, or a new export filter of it
abbrev pub tells_node : ℕ → Event → Reply → Bool
tells_node k (event.Up j) (reply.Opened session) = j == k
tells_node k (event.SetExport j f) (reply.Done changed) = j == k
tells_node k _ _ = false

-- An entry at a position is noted of a node: as one that changed a distance, if it is; and as one that queued something for the node, if it
-- did. What is noted are numbers of entries, so no order of notes matters, and none undoes another.
pub record IsNoted (k changed : ℕ) (w : Waiting) (at : ℕ) (e : Entry) : Type 0 where
  pub for_all : tells_all e.reply ≡ true → at < changed
  pub for_node : tells_node k e.event e.reply ≡ true → at < w.queued

-- so is each entry of a history
abbrev pub AreNoted : ℕ → ℕ → Waiting → List Entry → Type 0
AreNoted k changed w es = (before rest : List Entry) (e : Entry) → es ≡ before ++ e ∷ rest → IsNoted k changed w (length before) e

-- an entry that is a Take of the session that a node has in this world, and brought fewer messages than it asked for
pub record Empties (w : World) (k : ℕ) (e : Entry) : Type 0 where
  pub session : ℕ
  pub most : ℕ
  pub takes : e.event ≡ event.Take session most
  pub of : holder w session ≡ Some k
  pub fewer : length (carried e.reply) < most

-- the last of so many entries is such a Take
pub record IsEmptiedBy (opening : OpeningView) (k : ℕ) (es : List Entry) (count : ℕ) : Type 0 where
  pub before : List Entry
  pub last : Entry
  pub rest : List Entry
  pub is : es ≡ before ++ last ∷ rest
  pub count_is : count ≡ length before + 1
  pub empties : Empties (world_of opening before) k last

-- what is noted of a queue that was emptied is true: no Take is noted, or one that emptied it
abbrev pub WasEmptied : OpeningView → ℕ → List Entry → ℕ → Type 0
WasEmptied opening k es count = (count ≡ 0) ⊎ IsEmptiedBy opening k es count

-- the messages that wait for a node after a history
abbrev pub queue_of : World → ℕ → List Message
queue_of w k = (neighbour_at w.neighbours k).queue
