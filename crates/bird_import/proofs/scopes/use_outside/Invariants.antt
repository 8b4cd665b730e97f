use Rattle.std.specs.Prelude.{◌<◌, ℕ}
use Rattle.bird_import.specs.Scopes.{IsUse, LiesOutside, end_of_block}
use Rattle.bird_import.proofs.scopes.use_outside.Given as goal

abbrev pub invariant-loop-at : goal.invariant-loop-at
invariant-loop-at l = (k : ℕ) → k < l.at → IsUse l.name l.words k → LiesOutside l.declared (end_of_block l.words l.declared) k → ⊥
