use Rattle.std.proofs.Common.{◌≡◌, ◌+◌, ◌++◌, drop}
use Rattle.filter_checks.specs.Tap.{all_lines}
use Rattle.filter_checks.proofs.tap.all_lines.Given as goal

-- the lines so far, and what is lacking
abbrev pub invariant-loop-ran : goal.invariant-loop-ran
invariant-loop-ran l = record {
  lines : l.out.items ++ all_lines l.number (drop l.ran-index l.all) ≡ all_lines l.before l.all;
  number : l.number ≡ l.before + l.ran-index;
}
