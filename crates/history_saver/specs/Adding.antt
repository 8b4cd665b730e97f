-- The text of what is not saved of a journal. (This project's own choice.)
use Rattle.std.specs.Prelude.{◌≡◌, ℕ, ◌+◌, ◌++◌, max, min, List, All, map, take, drop}
use Rattle.history_lines.specs.Fits.{FitsEntry}
use Rattle.history_lines.specs.Text.{entries_text}
use Rattle.history_lines.specs.Views.{EntryView, entry_view}
use Rattle.route_history.specs.declared.entry.Entry.{Entry}

-- the most entries that are read at once
abbrev pub most_at_once : ℕ
most_at_once = 256

-- how many entries are saved next, where so many of so many are
abbrev pub next_count : ℕ → ℕ → ℕ
next_count saved all = max saved (min all (saved + most_at_once))

-- the entries from one position up to another
abbrev pub between : List Entry → ℕ → ℕ → List EntryView
between es from to = map entry_view (drop from (take to es))

-- the lines of these entries were added, and each entry has one
pub record AddsEntries (old : List ℕ) (es : List Entry) (from to : ℕ) (new : List ℕ) : Type 0 where
  pub text : new ≡ old ++ entries_text from (between es from to)
  pub each : All FitsEntry (between es from to)
