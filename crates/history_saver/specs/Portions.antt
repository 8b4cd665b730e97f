-- What is read at once of a journal that goes on. (This project's own choice.)
use Rattle.std.specs.Prelude.{◌≡◌, ℕ, ◌+◌, ◌<◌, ◌≤◌, [], List, IfSome, None, Option, length}
use Rattle.history_file.specs.Segments.{IsStateText}
use Rattle.history_saver.specs.Adding.{AddsEntries, next_count}
use Rattle.history_saver.specs.Steps.{IsRoom}
use Rattle.history_saver.specs.declared.portion.Portion.{Portion}
use Rattle.route_history.specs.History.{world_of}
use Rattle.route_history.specs.JournalView.{JournalView}

-- the text of the state after the whole history, which has so many entries
pub record IsEndState (j : JournalView) (to : ℕ) (bytes : List ℕ) : Type 0 where
  pub whole : to ≡ length j.entries
  pub is_state : IsStateText j.limit to (world_of j.opening j.entries) bytes

-- there is no state: there are more entries, or the newest segment has fewer than `every`
abbrev pub IsLeftOut : {A : Type 0} → JournalView → ℕ → ℕ → ℕ → Option A → Type 0
IsLeftOut j begun every to state = state ≡ None → to ≡ length j.entries → IsRoom j.limit → to < begun + every

-- the lines of the next entries, of which so many were read; and, if there are no more and the newest segment has `every` entries, the state
-- after them
pub record IsPortion (j : JournalView) (from begun every : ℕ) (p : Portion) : Type 0 where
  pub count : p.to ≡ next_count from (length j.entries)
  pub lines : AddsEntries [] j.entries from p.to p.lines.items
  pub ended : IfSome p.state (λ bytes. IsEndState j p.to bytes.items)
  pub due : IfSome p.state (λ bytes. begun + every ≤ p.to)
  pub left_out : IsLeftOut j begun every p.to p.state
