use Rattle.slot_lock.specs.Passes.{IsPassOf}
use Rattle.router_daemon.proofs.watching.look_at_all.Given as goal

abbrev pub invariant-loop-link : goal.invariant-loop-link
invariant-loop-link g l = IsPassOf g.J.Naming.router l.pass
