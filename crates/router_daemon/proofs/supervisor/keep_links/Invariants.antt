use Rattle.slot_lock.specs.Passes.{IsPassOf}
use Rattle.router_daemon.proofs.supervisor.keep_links.Given as goal

abbrev pub invariant-loop : goal.invariant-loop
invariant-loop g l = record {
  next : (goal.iterator-loop g).can_next l.iterator';
  finite : (goal.iterator-loop g).is_finite l.iterator';
  of : IsPassOf g.J.Naming.router l.pass;
}
