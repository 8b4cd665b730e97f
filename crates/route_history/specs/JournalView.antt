-- What a contract sees of a journal.
use Rattle.std.specs.Prelude.{ℕ, List}
use Rattle.netchange_core.specs.OpeningView.{OpeningView}
use Rattle.route_history.specs.declared.entry.Entry.{Entry}

-- what the router was opened with, how many entries the journal takes, and its entries in order
pub record JournalView : Type 0 where
  pub opening : OpeningView
  pub limit : ℕ
  pub entries : List Entry
