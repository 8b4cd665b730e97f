use Rattle.std.specs.Prelude.{◌<◌, ◌≤◌, ℕ}
use Rattle.bird_import.specs.Reasons.{LacksValue}
use Rattle.bird_import.proofs.declarations.first_without_value.Given as goal

abbrev pub invariant-loop-at : goal.invariant-loop-at
invariant-loop-at l = (k n : ℕ) → l.open ≤ k → k < l.at → LacksValue l.words k n → ⊥
