use Rattle.std.proofs.Common.{◌≡◌, ◌<◌, ℕ, List, get_or}
use Rattle.history_file.specs.Numbering.{texts_of}
use Rattle.history_file.proofs.numbering.find_row.Given as goal

-- none so far is this row
abbrev pub invariant-loop-number : goal.invariant-loop-number
invariant-loop-number l = (k : ℕ) (d : List ℕ) → k < l.number → get_or (texts_of l.rows) k d ≡ l.row → ⊥
