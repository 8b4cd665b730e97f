use Rattle.std.proofs.Common.{◌≡◌, ◌++◌, take}
use Rattle.std.specs.Prelude.{flat_map}
use Rattle.filter_lint.specs.WarningLines.{warning_in}
use Rattle.filter_lint.proofs.warning_lines.push_warnings.Given as goal

-- the lines so far
abbrev pub invariant-loop-warning : goal.invariant-loop-warning
invariant-loop-warning l =
    l.out.items ≡ l.initial.out.items ++ flat_map (warning_in l.format l.name l.text l.sets) (take l.warning-index l.warnings)
