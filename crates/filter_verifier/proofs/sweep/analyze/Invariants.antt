use Rattle.std.proofs.Common.{◌≡◌, []}
use Rattle.filter_verifier.proofs.Sweeps.{Before}
use Rattle.filter_verifier.proofs.sweep.analyze.Given as goal

-- all that the indices below hand on has arrived, and the stack of the sweep is empty
abbrev pub invariant-loop-at : goal.invariant-loop-at
invariant-loop-at l = record {
  before : Before l.code l.size l.at l.in_states.items l.depth;
  empty : l.stack ≡ [];
}
