use Rattle.std.specs.Prelude.{◌++◌, ℕ, drop}
use Rattle.bird_import.specs.Steps.{Becomes}
use Rattle.bird_import.proofs.defines.define_each.Given as goal

abbrev pub invariant-loop-at : goal.invariant-loop-at
invariant-loop-at l = (depth : ℕ) → Becomes l.config.words.now depth l.words (l.done.items ++ drop l.at l.words)
