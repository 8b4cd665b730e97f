use Rattle.std.proofs.Common.{◌≡◌, take}
use Rattle.std.specs.Prelude.{flat_map}
use Rattle.filter_checks.specs.Tap.{failure_of}
use Rattle.filter_checks.proofs.tap.failures_of.Given as goal

-- what is told so far
abbrev pub invariant-loop-ran : goal.invariant-loop-ran
invariant-loop-ran l = l.out.items ≡ flat_map (failure_of l.name) (take l.ran-index l.all)
