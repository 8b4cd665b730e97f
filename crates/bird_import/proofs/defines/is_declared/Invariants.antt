use Rattle.std.specs.Prelude.{◌<◌, ℕ}
use Rattle.bird_import.specs.Reasons.{IsVariableAt}
use Rattle.bird_import.proofs.defines.is_declared.Given as goal

abbrev pub invariant-loop-at : goal.invariant-loop-at
invariant-loop-at l = (k : ℕ) → k < l.at → IsVariableAt l.name l.words k → ⊥
