use Rattle.std.proofs.Common.{◌≡◌, take}
use Rattle.std.specs.Prelude.{filter}
use Rattle.filter_lint.specs.Allowing.{are_shown}
use Rattle.filter_lint.proofs.allowing.shown_host_bits.Given as goal

-- those that are told so far
abbrev pub invariant-loop-found : goal.invariant-loop-found
invariant-loop-found l = l.shown.items ≡ filter (are_shown l.allowed l.text) (take l.found-index l.all)
