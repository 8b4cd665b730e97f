use Rattle.std.specs.Prelude.{◌<◌, ℕ}
use Rattle.bird_import.specs.Functions.{DeclaresNothingAt}
use Rattle.bird_import.proofs.functions.declares_nothing.Given as goal

abbrev pub invariant-loop-at : goal.invariant-loop-at
invariant-loop-at l = (k : ℕ) → k < l.at → DeclaresNothingAt l.words k
