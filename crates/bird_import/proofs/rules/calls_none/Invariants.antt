use Rattle.std.proofs.Common.{ℕ, ◌<◌}
use Rattle.bird_import.specs.Rules.{CallsNoneAt}
use Rattle.bird_import.proofs.rules.calls_none.Given as goal

-- no call so far
abbrev pub invariant-loop-at : goal.invariant-loop-at
invariant-loop-at l = (k : ℕ) → k < l.at → CallsNoneAt l.words k
