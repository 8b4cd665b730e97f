use Rattle.std.proofs.Common.{◌≡◌, length, map}
use Rattle.history_file.specs.Files.{AreFront}
use Rattle.history_lines.specs.Views.{entry_view}
use Rattle.history_file.proofs.history.read_entries.Given as goal

-- so many entries were read, a line each
abbrev pub invariant-loop-at : goal.invariant-loop-at
invariant-loop-at l = record {
  front : AreFront l.bytes l.limit (map entry_view l.entries.items) l.rest;
  count : length l.entries.items ≡ l.at;
}
