-- What the calls of the tables answer from the world. (This project's own choice.)
use Rattle.std.specs.Prelude.{ℕ, min, Option, Some, None, List, [], replicate, length}
use Rattle.netchange_core.specs.declared.event.Event.{Event}
use Rattle.netchange_core.specs.declared.event.Event.TheVariants as event
use Rattle.netchange_core.specs.declared.message.Message.{Message}
use Rattle.netchange_core.specs.declared.reply.Reply.{Reply}
use Rattle.netchange_core.specs.declared.reply.Reply.TheVariants as reply
use Rattle.netchange_core.specs.Next.{unreached}
use Rattle.netchange_core.specs.OpeningView.{OpeningView}
use Rattle.netchange_core.specs.World.{NeighbourView, World, holder, neighbour_at}

-- a neighbour that never was up
abbrev pub newcomer : OpeningView → NeighbourView
newcomer o = record { session = None; advertised = unreached o; imports = None; exports = None; queue = [] }

-- the world of an opening: no neighbour was ever up
abbrev pub opened : OpeningView → World
opened o = record { opening = o; sessions = 0; neighbours = replicate o.size (newcomer o) }

-- the present session of a node, if it is an up neighbour
abbrev pub session_of : World → ℕ → Option ℕ
session_of w k = (neighbour_at w.neighbours k).session

-- how many messages wait for a neighbour, and for the one whose present session this is
abbrev pub waiting_for : World → Option ℕ → ℕ
waiting_for w None = 0
waiting_for w (Some k) = length (neighbour_at w.neighbours k).queue

abbrev pub queued_of : World → ℕ → ℕ
queued_of w s = waiting_for w (holder w s)

-- the messages in a reply
abbrev pub carried : Reply → List Message
carried (reply.Messages messages) = messages
carried _ = []

-- at most how many messages the reply to an event has
abbrev pub room_of : World → Event → ℕ
room_of w (event.Take s max) = min max (queued_of w s)
room_of w _ = 0

-- whether an event with this reply may need memory: a look does not, nor does an event that is refused
abbrev pub MayNeedMemory : Reply → Type 0
MayNeedMemory (reply.Route dist via) = ⊥
MayNeedMemory (reply.Refused why) = ⊥
MayNeedMemory _ = Unit {0}
