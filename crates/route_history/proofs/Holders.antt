-- Sessions: each is held by one neighbour, and none has a number that was not opened.
use Rattle.std.proofs.Common.{◌≡◌, ℕ, ◌≤◌, Some, length}
use Rattle.netchange_core.specs.Calls.{session_of}
use Rattle.netchange_core.specs.World.{World}
use Rattle.netchange_core.proofs.Holders.{AreApart}

-- each neighbour's session was opened, no two up neighbours have the same one, and there is one neighbour a node
pub record AreOwn (w : World) : Type 0 where
  pub opened : (k s : ℕ) → session_of w k ≡ Some s → s ≤ w.sessions
  pub apart : AreApart w.neighbours
  pub one_a_node : length w.neighbours ≡ w.opening.size
