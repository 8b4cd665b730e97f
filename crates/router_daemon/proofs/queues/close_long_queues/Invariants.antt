use Rattle.slot_lock.specs.Passes.{IsPassOf}
use Rattle.router_daemon.proofs.queues.close_long_queues.Given as goal

abbrev pub invariant-loop : goal.invariant-loop
invariant-loop g l = IsPassOf g.J.Naming.router l.pass
