use Rattle.netchange_core.proofs.Recomputed.{AreRecomputed}
use Rattle.netchange_core.proofs.state.State.recompute.Given as goal

abbrev pub invariant-loop-node : goal.invariant-loop-node
invariant-loop-node l =
    AreRecomputed l.fn.self.opening l.fn.self.neighbours.items l.fn.self.destinations.items l.node l.neighbours l.destinations l.changed
