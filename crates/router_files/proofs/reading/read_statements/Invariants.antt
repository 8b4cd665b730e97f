use Rattle.std.proofs.Common.{◌≡◌, ◌+◌, ◌≤◌, length, map}
use Rattle.std.specs.List.{enumerate_from}
use Rattle.std.specs.Str.Lines.{lines}
use Rattle.router_files.specs.Files.{statement_of, statements_in}
use Rattle.router_files.proofs.Statements.{behind}
use Rattle.router_files.proofs.reading.read_statements.Given as goal

-- what the lines so far say, and what those of the rest do
abbrev pub invariant-loop-line : goal.invariant-loop-line
invariant-loop-line l = record {
  read : statements_in l.folder (enumerate_from 1 (lines l.text))
      ≡ behind (map statement_of l.statements.items) (statements_in l.folder (enumerate_from l.number (lines l.rest)));
  count : l.number + length l.rest ≤ 1 + length l.text;
}

abbrev pub decreases-loop-line : goal.decreases-loop-line
decreases-loop-line l = length l.rest
