use Rattle.std.proofs.Common.{◌≡◌, length, drop}
use Rattle.filter_verifier.specs.Bounds.{costs}
use Rattle.filter_verifier.proofs.bounds.budget_of.Given as goal

-- the costs from here on are known
abbrev pub invariant-loop-at : goal.invariant-loop-at
invariant-loop-at l = record {
  wide : length l.costs.items ≡ length l.instrs;
  known : drop l.at l.costs.items ≡ costs (drop l.at l.instrs);
}
