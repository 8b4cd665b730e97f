use Rattle.std.specs.Prelude.{ℕ}
use Rattle.bird_import.specs.Steps.{Becomes}
use Rattle.bird_import.proofs.defines.define_all.Given as goal

abbrev pub invariant-loop : goal.invariant-loop
invariant-loop l = (depth : ℕ) → Becomes l.config.words.now depth l.fn.words.items l.words.items
