-- The replays of the journals of a ring. (This project's own choice.)
use Rattle.std.specs.Prelude.{◌≡◌}
use Rattle.route_history.specs.History.{world_of}
use Rattle.ring_network.specs.declared.replays.Replayed.{Replayed}
use Rattle.ring_network.specs.declared.ring.Ring.{Ring}
use Rattle.ring_network.specs.Ring.{IsJournalOf}

-- each journal is that of its node
pub record IsRing (ring : Ring) : Type 0 where
  pub zero : IsJournalOf 0 ring.zero
  pub one : IsJournalOf 1 ring.one
  pub two : IsJournalOf 2 ring.two

-- the tables of each node are those that all entries of its journal come to
pub record IsReplayed (r : Replayed) : Type 0 where
  pub zero : r.zero ≡ world_of r.ring.zero.opening r.ring.zero.entries
  pub one : r.one ≡ world_of r.ring.one.opening r.ring.one.entries
  pub two : r.two ≡ world_of r.ring.two.opening r.ring.two.entries
