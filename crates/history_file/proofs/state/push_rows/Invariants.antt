use Rattle.std.proofs.Common.{◌≡◌, ◌++◌, drop}
use Rattle.std.specs.Io.{StartsWith}
use Rattle.history_file.specs.Numbering.{rows_text, texts_of}
use Rattle.history_file.proofs.state.push_rows.Given as goal

-- the rows so far were added, and those that are left will be
abbrev pub invariant-loop-number : goal.invariant-loop-number
invariant-loop-number l = record {
  added : l.out.items ++ rows_text l.number (texts_of (drop l.number l.rows)) ≡ l.fn.out.items ++ rows_text 0 (texts_of l.rows);
  front : StartsWith l.out.items l.fn.out.items;
}
