-- What a journal keeps true of its tables.
use Rattle.std.specs.Prelude.{◌≡◌, ℕ, ◌≤◌, List, length}
use Rattle.netchange_core.specs.World.{World}
use Rattle.route_history.specs.declared.entry.Entry.{Entry}
use Rattle.route_history.specs.History.{IsLegal, world_of}

-- the entries are a legal history within the limit, and the tables are the world after it
pub record IsRecorded (w : World) (limit : ℕ) (es : List Entry) : Type 0 where
  pub legal : IsLegal w.opening es
  pub recorded : w ≡ world_of w.opening es
  pub room : length es ≤ limit
