use Rattle.std.proofs.Common.{◌≡◌, take}
use Rattle.std.specs.Prelude.{filter}
use Rattle.filter_lint.specs.Allowing.{is_shown}
use Rattle.filter_lint.proofs.allowing.shown_of.Given as goal

-- those that are told so far
abbrev pub invariant-loop-warning : goal.invariant-loop-warning
invariant-loop-warning l = l.shown.items ≡ filter (is_shown l.allowed l.text) (take l.warning-index l.warnings)
