use Rattle.std.proofs.Common.{◌≡◌, ◌++◌, take}
use Rattle.std.specs.Prelude.{flat_map}
use Rattle.filter_checks.specs.Results.{test_report}
use Rattle.filter_checks.proofs.results.push_reports.Given as goal

-- those so far
abbrev pub invariant-loop-ran : goal.invariant-loop-ran
invariant-loop-ran l = l.out.items ≡ l.initial.out.items ++ flat_map (test_report l.name) (take l.ran-index l.all)
