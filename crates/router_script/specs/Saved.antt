-- What is saved of a script. (This project's own choice.)
use Rattle.std.specs.Prelude.{◌≡◌, ℕ, Bool, true, List, [], ◌++◌, map, Option}
use Rattle.std.specs.Io.KnownBytes.{Appends}
use Rattle.history_lines.specs.Text.{history_text}
use Rattle.history_lines.specs.Views.{HistoryView, entry_view}
use Rattle.line_protocol.specs.Answers.{Answer}
use Rattle.operator_cmds.specs.Stages.{StageView, Empty, Setting, Open, new_journal}
use Rattle.route_history.specs.JournalView.{JournalView}
use Rattle.router_script.specs.Naming.{PreparedView}
use Rattle.router_script.specs.Stopping.{AnswersStopping}

-- a journal's history, as its text shows it
abbrev pub history_of : JournalView → HistoryView
history_of j = record { opening = j.opening; limit = j.limit; entries = map entry_view j.entries }

-- the text of a script's history between two lines: nothing before the first event, then the opening and each entry so far
abbrev pub saved_text : StageView → List ℕ
saved_text Empty = []
saved_text (Setting opening limit) = []
saved_text (Open journal) = history_text (history_of journal)

-- the text of the history of a script that came to its end: where no event opened its journal, that of one without entries
abbrev pub whole_text : StageView → List ℕ
whole_text Empty = []
whole_text (Setting opening limit) = history_text (history_of (new_journal opening limit))
whole_text (Open journal) = history_text (history_of journal)

-- a script, whether its history is saved, what its saver holds where that is known, and whether it ends at its first refused line
pub record SavedView : Type 0 where
  pub script : PreparedView
  pub saves : Bool
  pub holds : Option (List ℕ)
  pub stops : Bool

-- where the history is saved, the saver got what was added to the text, and nothing else
abbrev pub SavesMore : SavedView → SavedView → Type 0
SavesMore before after = (more : List ℕ) × (saved_text after.script.script.stage ≡ saved_text before.script.script.stage ++ more)
    × (before.saves ≡ true → Appends before.holds after.holds more)

-- a line is answered as such a script answers it, and what it added to the history is saved
abbrev pub AnswersSaved : SavedView → ℕ → List ℕ → Answer → SavedView → Type 0
AnswersSaved before number line answer after = AnswersStopping before.stops before.script number line answer after.script
    × SavesMore before after × (after.saves ≡ before.saves) × (after.stops ≡ before.stops)
