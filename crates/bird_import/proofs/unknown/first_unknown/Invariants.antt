use Rattle.std.specs.Prelude.{◌<◌, ℕ}
use Rattle.bird_import.specs.Indices.{kind_at}
use Rattle.bird_import.specs.Reasons.{IsKnown}
use Rattle.bird_import.proofs.unknown.first_unknown.Given as goal

abbrev pub invariant-loop-at : goal.invariant-loop-at
invariant-loop-at l = (k : ℕ) → k < l.at → IsKnown (kind_at l.words k) l.words k
