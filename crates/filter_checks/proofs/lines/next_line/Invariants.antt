use Rattle.std.proofs.Common.{◌≡◌, ◌+◌, ◌≤◌, length}
use Rattle.std.specs.Str.Lines.{lines}
use Rattle.line_protocol.specs.Lines.{answerable_from}
use Rattle.filter_checks.proofs.lines.next_line.Given as goal

-- the lines so far are skipped
abbrev pub invariant-loop-line : goal.invariant-loop-line
invariant-loop-line l = record {
  skipped : answerable_from l.first (lines l.text) ≡ answerable_from l.number (lines l.rest);
  count : l.number + length l.rest ≤ l.first + length l.text;
  within : length l.rest ≤ length l.text;
}

abbrev pub decreases-loop-line : goal.decreases-loop-line
decreases-loop-line l = length l.rest
