-- What a line and the end of a script add to the text of a history.
use Rattle.std.specs.Prelude.{◌≡◌, ℕ, List, [], ◌∷◌, ◌++◌, length, Option, Some, None, slice_get, take}
use Rattle.filter_source.specs.declared.failure.Failure.{Failure}
use Rattle.filter_source.specs.declared.failure.Failure.TheVariants as failure
use Rattle.history_lines.specs.Text.{entry_line, opening_line}
use Rattle.history_lines.specs.Views.{entry_view}
use Rattle.line_protocol.specs.declared.answers.LineReply.{LineReply}
use Rattle.line_protocol.specs.declared.answers.LineReply.TheVariants.{Ended}
use Rattle.operator_cmds.specs.Stages.{StageView, Empty, Setting, Open}
use Rattle.route_history.specs.JournalView.{JournalView}
use Rattle.route_history.specs.declared.entry.Entry.{Entry}
use Rattle.router_script.specs.declared.filter_naming.Unfit.{Unfit}

-- how many entries there are, if the journal is open
abbrev pub count_in : StageView → Option ℕ
count_in Empty = None
count_in (Setting opening limit) = None
count_in (Open journal) = Some (length journal.entries)

-- the line of the entry at a position, if there is one
abbrev pub line_of : ℕ → Option Entry → List ℕ
line_of at None = []
line_of at (Some e) = entry_line at (entry_view e) ++ 10 ∷ []

-- The next line of a journal of which so many entries are saved. Where nothing is, the opening's line comes before it.
abbrev pub next_lines : Option ℕ → JournalView → List ℕ
next_lines None j = (opening_line j.opening j.limit ++ 10 ∷ []) ++ line_of 0 (slice_get j.entries 0)
next_lines (Some n) j = line_of n (slice_get j.entries n)

-- the same of a script; before the first event there is none
abbrev pub news : Option ℕ → StageView → List ℕ
news saved Empty = []
news saved (Setting opening limit) = []
news saved (Open journal) = next_lines saved journal

-- what the end of a script adds: the opening's line, where a domain is set up and no event opened the journal
abbrev pub closing : StageView → List ℕ
closing Empty = []
closing (Setting opening limit) = opening_line opening limit ++ 10 ∷ []
closing (Open journal) = []

-- what becomes of an answer that was written behind the first `begun` bytes: where a filter is refused it is taken back, and the script ends
abbrev pub Tells : Option Unfit → ℕ → LineReply → List ℕ → List ℕ → LineReply → Type 0
Tells None begun reply before after given = (after ≡ before) × (given ≡ reply)
Tells (Some unfit) begun reply before after given = (after ≡ take begun before) × (given ≡ Ended)

-- the filter at a place that was not verified is refused; refused memory is no refusal
abbrev pub IsFailureAt : ℕ → Failure → Option Unfit → Type 0
IsFailureAt index (failure.Refused diagnosis) unfit = unfit ≡ Some (record { index = index; diagnosis = diagnosis })
IsFailureAt index failure.Memory unfit = ⊥
