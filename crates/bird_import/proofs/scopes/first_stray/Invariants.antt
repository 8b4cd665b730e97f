use Rattle.std.specs.Prelude.{◌<◌, ℕ, List, length}
use Rattle.bird_import.specs.Reasons.{IsVariableAt}
use Rattle.bird_import.specs.Scopes.{IsUse, LiesOutside, end_of_block}
use Rattle.bird_import.proofs.scopes.first_stray.Given as goal

abbrev pub invariant-loop-at : goal.invariant-loop-at
invariant-loop-at l =
    (declared : ℕ) → declared < l.at → (name : List ℕ) (k : ℕ) → IsVariableAt name l.words declared → k < length l.words → IsUse name l.words k
    → LiesOutside declared (end_of_block l.words declared) k → ⊥
