use Rattle.std.specs.Prelude.{◌<◌, ◌≤◌, ℕ}
use Rattle.bird_import.specs.Stuck.{IsFunctionOf}
use Rattle.bird_import.specs.declared.items.Item.{Item}
use Rattle.bird_import.proofs.calls.first_function.Given as goal

abbrev pub invariant-loop-at : goal.invariant-loop-at
invariant-loop-at l = (k : ℕ) → l.from ≤ k → k < l.at → (one : Item) → IsFunctionOf l.config l.name k one → ⊥
