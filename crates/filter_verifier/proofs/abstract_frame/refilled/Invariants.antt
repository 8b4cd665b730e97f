use Rattle.std.proofs.Common.{◌≡◌, ◌++◌, Some, length, map}
use Rattle.filter_verifier.proofs.abstract_frame.refilled.Given as goal

-- what the places have, and what the stack still has above them
abbrev pub invariant-loop-fact : goal.invariant-loop-fact
invariant-loop-fact l = l.places.items ++ map (λ f. Some f) l.stack ≡ map (λ f. Some f) l.fn.stack

abbrev pub decreases-loop-fact : goal.decreases-loop-fact
decreases-loop-fact l = length l.stack
