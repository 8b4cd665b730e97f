use Rattle.std.proofs.Common.{◌≡◌, ◌+◌, ◌≤◌, length, map}
use Rattle.std.specs.Str.Lines.{lines}
use Rattle.line_protocol.specs.Lines.{answerable_from}
use Rattle.filter_checks.specs.Files.{test_view, tests_in}
use Rattle.filter_checks.proofs.MoreTests.{behind}
use Rattle.filter_checks.proofs.test_file.read_all.Given as goal

-- the tests so far, and those of the rest
abbrev pub invariant-loop-at : goal.invariant-loop-at
invariant-loop-at l = record {
  tests : tests_in l.size (answerable_from l.first (lines l.text))
      ≡ behind (map test_view l.tests.items) (tests_in l.size (answerable_from l.number (lines l.rest)));
  count : l.number + length l.rest ≤ l.first + length l.text;
}

abbrev pub decreases-loop-at : goal.decreases-loop-at
decreases-loop-at l = length l.rest
