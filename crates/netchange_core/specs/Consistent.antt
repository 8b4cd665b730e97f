-- Which worlds are consistent: each world that is reached from an opening is, and a router can be restored to any that is.
-- (This project's own choice.)
use Rattle.std.specs.Prelude.{◌≡◌, ℕ, ◌<◌, ◌≤◌, All, Option, Some, None, List, [], length}
use Rattle.netchange_core.specs.declared.message.Message.{Message}
use Rattle.netchange_core.specs.Kept.{IsNeighbour}
use Rattle.netchange_core.specs.Next.{last_session, unreached}
use Rattle.netchange_core.specs.OpeningView.{OpeningView}
use Rattle.netchange_core.specs.Present.{session_in, sessions_of}
use Rattle.netchange_core.specs.World.{NeighbourView, World, neighbour_at}

-- a message is about a node of a domain of this size, and tells a distance in it
pub record IsMessage (size : ℕ) (m : Message) : Type 0 where
  pub dest : m.dest < size
  pub dist : m.dist ≤ size

-- a neighbour that is down has advertised nothing, and nothing waits for it
pub record IsIdle (o : OpeningView) (n : NeighbourView) : Type 0 where
  pub advertised : n.advertised ≡ unreached o
  pub queue : n.queue ≡ []

-- a neighbour of the domain, for which messages of the domain wait
pub record IsConsistentNeighbour (o : OpeningView) (n : NeighbourView) : Type 0 where
  pub neighbour : IsNeighbour o.size n
  pub messages : All (IsMessage o.size) n.queue
  pub down : n.session ≡ None → IsIdle o n

-- the router's own node was never up, and no filter was set for it
pub record IsOwn (n : NeighbourView) : Type 0 where
  pub session : n.session ≡ None
  pub imports : n.imports ≡ None
  pub exports : n.exports ≡ None

-- one neighbour a node
pub record AreConsistentNeighbours (o : OpeningView) (ns : List NeighbourView) : Type 0 where
  pub one_a_node : length ns ≡ o.size
  pub own : IsOwn (neighbour_at ns o.me)
  pub each : All (IsConsistentNeighbour o) ns

-- the sessions of the neighbours, of so many: each was opened, and no two neighbours have the same one
pub record AreSessions (count : ℕ) (sessions : List (Option ℕ)) : Type 0 where
  pub numbered : (k s : ℕ) → session_in sessions k ≡ Some s → (0 < s) × (s ≤ count)
  pub apart : (j k s : ℕ) → session_in sessions j ≡ Some s → session_in sessions k ≡ Some s → j ≡ k

pub record IsConsistent (w : World) : Type 0 where
  pub neighbours : AreConsistentNeighbours w.opening w.neighbours
  pub sessions : AreSessions w.sessions (sessions_of w.neighbours)
  pub counted : w.sessions ≤ last_session
