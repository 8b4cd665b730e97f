use Rattle.std.specs.Prelude.{◌≡◌, ◌<◌, ◌≤◌, ℕ, true}
use Rattle.bird_import.specs.Items.{opens_block}
use Rattle.bird_import.proofs.outline.first_block.Given as goal

abbrev pub invariant-loop-at : goal.invariant-loop-at
invariant-loop-at l = (k : ℕ) → l.from ≤ k → k < l.at → opens_block l.words k ≡ true → ⊥
