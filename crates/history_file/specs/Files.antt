-- Which history the bytes of a file tell, and when they tell none. (This project's own choice.)
use Rattle.std.specs.Prelude.{◌≡◌, ◌⊎◌, ℕ, ◌+◌, ◌≤◌, List, All, ◌++◌, length, map, Some, None, ⊤}
use Rattle.netchange_core.specs.OpeningView.{OpeningView}
use Rattle.prefix_patterns.specs.Reading.{parts_at}
use Rattle.history_lines.specs.Fits.{FitsEntry, FitsHistory, FitsOpening}
use Rattle.history_lines.specs.Text.{entries_text, entry_line, history_text, opening_line}
use Rattle.history_lines.specs.Views.{EntryView, HistoryView, entry_view}
use Rattle.history_file.specs.declared.fault.HistoryFault.{HistoryFault}
use Rattle.history_file.specs.declared.fault.HistoryFault.TheVariants as fault
use Rattle.history_file.specs.declared.history.SavedHistory.{SavedHistory}

-- the bytes end within a line: no line feed is in them
abbrev pub IsUnended : List ℕ → Type 0
IsUnended bytes = parts_at 10 bytes ≡ None

-- the bytes begin with a whole line, and this follows it
abbrev pub BeginsWithLine : List ℕ → List ℕ → List ℕ → Type 0
BeginsWithLine bytes line later = parts_at 10 bytes ≡ Some (line, later)

-- the bytes are the text of a history, and the front of a line that was not written to its end
pub record Tells (bytes : List ℕ) (h : HistoryView) (unfinished : List ℕ) : Type 0 where
  pub fits : FitsHistory h
  pub text : bytes ≡ history_text h ++ unfinished
  pub unended : IsUnended unfinished

-- the text of entries from the first on, each fit for it, and what follows it
pub record AreFront (bytes : List ℕ) (limit : ℕ) (es : List EntryView) (left : List ℕ) : Type 0 where
  pub each : All FitsEntry es
  pub room : length es ≤ limit
  pub text : bytes ≡ entries_text 0 es ++ left

-- no opening has this line
abbrev pub IsNoOpening : List ℕ → Type 0
IsNoOpening line = (o : OpeningView) (limit : ℕ) → FitsOpening o limit → line ≡ opening_line o limit → ⊥

-- no entry has this line at this position
abbrev pub IsNoEntry : ℕ → List ℕ → Type 0
IsNoEntry at line = (e : EntryView) → FitsEntry e → line ≡ entry_line at e → ⊥

-- after the text of a history comes a whole line that is none of its next entry, or the history is full
pub record StopsAfter (bytes : List ℕ) (h : HistoryView) : Type 0 where
  pub fits : FitsHistory h
  pub line : List ℕ
  pub later : List ℕ
  pub left : List ℕ
  pub text : bytes ≡ history_text h ++ left
  pub begins : BeginsWithLine left line later
  pub wrong : (length h.entries ≡ h.limit) ⊎ IsNoEntry (length h.entries) line

-- the same of the bytes after the first line
pub record StopsWithin (bytes : List ℕ) (limit : ℕ) (es : List EntryView) : Type 0 where
  pub line : List ℕ
  pub later : List ℕ
  pub left : List ℕ
  pub front : AreFront bytes limit es left
  pub begins : BeginsWithLine left line later
  pub wrong : (length es ≡ limit) ⊎ IsNoEntry (length es) line

-- the first line is not the line of an opening
pub record LacksOpening (bytes : List ℕ) : Type 0 where
  pub line : List ℕ
  pub later : List ℕ
  pub begins : BeginsWithLine bytes line later
  pub wrong : IsNoOpening line

-- the line of this number, counted from 1, is the first that is not as a history has it
abbrev pub IsWrongAt : List ℕ → ℕ → Type 0
IsWrongAt bytes number = ((number ≡ 1) × LacksOpening bytes)
    ⊎ ((h : HistoryView) × (number ≡ length h.entries + 2) × StopsAfter bytes h)

-- why the bytes tell no history; of refused memory nothing is said
abbrev pub IsFaultOf : List ℕ → HistoryFault → Type 0
IsFaultOf bytes (fault.Line number) = IsWrongAt bytes number
IsFaultOf bytes fault.Unopened = IsUnended bytes
IsFaultOf bytes fault.Memory = ⊤

-- the same of the bytes after the first line, which have no fault but these
abbrev pub IsEntriesFault : List ℕ → ℕ → HistoryFault → Type 0
IsEntriesFault bytes limit (fault.Line number) = (es : List EntryView) × (number ≡ length es + 2) × StopsWithin bytes limit es
IsEntriesFault bytes limit fault.Unopened = ⊥
IsEntriesFault bytes limit fault.Memory = ⊤

-- these entries were read, with so many bytes after the last whole line
pub record AreRead (bytes : List ℕ) (limit : ℕ) (es : List EntryView) (count : ℕ) : Type 0 where
  pub left : List ℕ
  pub front : AreFront bytes limit es left
  pub unended : IsUnended left
  pub count_is : length left ≡ count

-- a history was read, with so many bytes after the last whole line
pub record IsRead (bytes : List ℕ) (h : HistoryView) (count : ℕ) : Type 0 where
  pub unfinished : List ℕ
  pub tells : Tells bytes h unfinished
  pub count_is : length unfinished ≡ count

-- what was read
abbrev pub history_view : SavedHistory → HistoryView
history_view s = record { opening = s.opening; limit = s.limit; entries = map entry_view s.entries.items }

-- a history with this opening, whose entries were read
pub record IsRest (bytes : List ℕ) (opening : OpeningView) (limit : ℕ) (s : SavedHistory) : Type 0 where
  pub opening_is : s.opening ≡ opening
  pub limit_is : s.limit ≡ limit
  pub read : AreRead bytes limit (map entry_view s.entries.items) s.unfinished
