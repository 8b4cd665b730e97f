use Rattle.std.specs.Prelude.{◌<◌, ℕ, List}
use Rattle.bird_import.specs.Reasons.{IsVariableAt}
use Rattle.bird_import.specs.Stuck.{IsDefinedName}
use Rattle.bird_import.proofs.defines.first_of_two_meanings.Given as goal

abbrev pub invariant-loop-at : goal.invariant-loop-at
invariant-loop-at l = (k : ℕ) → k < l.at → (name : List ℕ) → IsVariableAt name l.words k → IsDefinedName l.config name → ⊥
