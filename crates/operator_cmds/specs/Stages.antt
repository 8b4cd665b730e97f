-- How far a script has come. (This project's own choice.)
use Rattle.std.specs.Prelude.{ℕ, [], Option, Some, None}
use Rattle.netchange_core.specs.Calls.{session_of}
use Rattle.netchange_core.specs.OpeningView.{OpeningView}
use Rattle.route_history.specs.History.{world_of}
use Rattle.route_history.specs.JournalView.{JournalView}

-- before `network`; with a domain that is set up, and the limit of the history; with a router's journal
pub data StageView : Type 0 where
  Empty : StageView
  Setting : OpeningView → ℕ → StageView
  Open : JournalView → StageView

-- a journal without entries
abbrev pub new_journal : OpeningView → ℕ → JournalView
new_journal opening limit = record { opening = opening; limit = limit; entries = [] }

-- the journal is open, if a domain is set up
abbrev pub opened_stage : StageView → StageView
opened_stage Empty = Empty
opened_stage (Setting opening limit) = Open (new_journal opening limit)
opened_stage (Open journal) = Open journal

-- the journal that the next event finds, if a domain is set up
abbrev pub journal_in : StageView → Option JournalView
journal_in Empty = None
journal_in (Setting opening limit) = Some (new_journal opening limit)
journal_in (Open journal) = Some journal

-- the number of nodes of the domain
abbrev pub size_in : StageView → Option ℕ
size_in Empty = None
size_in (Setting opening limit) = Some opening.size
size_in (Open journal) = Some journal.opening.size

-- the present session of a node, if it is an up neighbour; before the first event none is
abbrev pub session_in : StageView → ℕ → Option ℕ
session_in Empty node = None
session_in (Setting opening limit) node = None
session_in (Open journal) node = session_of (world_of journal.opening journal.entries) node

-- the number by which an event of a script names a session: 0, which no session has, where the node is no up neighbour
abbrev pub session_number : Option ℕ → ℕ
session_number None = 0
session_number (Some session) = session
