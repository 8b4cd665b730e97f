-- The entries that the lines of a script make. Who keeps the history writes each of them as it is made. (This project's own choice.)
use Rattle.std.specs.Prelude.{◌≡◌, ◌⊎◌, List, [], ◌∷◌, ◌++◌, Option, Some, None}
use Rattle.route_history.specs.JournalView.{JournalView}
use Rattle.route_history.specs.declared.entry.Entry.{Entry}
use Rattle.operator_cmds.specs.Stages.{StageView, Empty, Setting, Open}

-- the journal, once the first event opened it
abbrev pub open_journal : StageView → Option JournalView
open_journal Empty = None
open_journal (Setting opening limit) = None
open_journal (Open journal) = Some journal

-- the entries so far: none before the first event
abbrev pub entries_in : StageView → List Entry
entries_in Empty = []
entries_in (Setting opening limit) = []
entries_in (Open journal) = journal.entries

-- the same entries, or one more
abbrev pub GrowsByOne : List Entry → List Entry → Type 0
GrowsByOne old new = (new ≡ old) ⊎ ((last : Entry) × (new ≡ old ++ last ∷ []))

-- a journal that is open stays so, with what the router was opened with
abbrev pub StaysOpen : StageView → StageView → Type 0
StaysOpen Empty after = Unit {0}
StaysOpen (Setting opening limit) after = Unit {0}
StaysOpen (Open journal) after =
    (later : JournalView) × (after ≡ Open later) × (later.opening ≡ journal.opening) × (later.limit ≡ journal.limit)

-- what one line may do to the history: the text of the history grows by at most one line, the opening aside, and none is changed
pub record GoesOn (before after : StageView) : Type 0 where
  pub entries : GrowsByOne (entries_in before) (entries_in after)
  pub opening : StaysOpen before after
