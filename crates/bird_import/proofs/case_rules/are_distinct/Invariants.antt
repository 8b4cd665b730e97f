use Rattle.std.specs.Prelude.{◌<◌, ℕ}
use Rattle.bird_import.specs.Cases.{IsDistinctAt}
use Rattle.bird_import.proofs.case_rules.are_distinct.Given as goal

abbrev pub invariant-loop-at : goal.invariant-loop-at
invariant-loop-at l = (k : ℕ) → k < l.at → IsDistinctAt l.label l.parts k
