-- The queues, and room in them.
use Rattle.std.specs.Prelude.{ℕ, ◌+◌, ◌≤◌, ◌++◌, All, IsSome, List}
use Rattle.std.specs.VecDeque.{deque_len, deque_capacity}
use Rattle.netchange_core.specs.declared.message.Message.{Message}
use Rattle.netchange_core.specs.declared.neighbour.Neighbour.{Neighbour}
use Rattle.netchange_core.specs.World.{NeighbourView}

-- a neighbour with more messages in its queue
abbrev pub queueing : List Message → NeighbourView → NeighbourView
queueing messages n = record n { queue = n.queue ++ messages }

-- there is room for so many more messages to a neighbour, if it is up
abbrev pub HasRoom : ℕ → Neighbour → Type 0
HasRoom more n = IsSome n.session → deque_len n.queue + more ≤ deque_capacity n.queue

abbrev pub HaveRoom : ℕ → List Neighbour → Type 0
HaveRoom more ns = All (HasRoom more) ns
