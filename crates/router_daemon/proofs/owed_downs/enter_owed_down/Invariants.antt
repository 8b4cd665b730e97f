use Rattle.slot_lock.specs.Passes.{IsPassOf}
use Rattle.router_daemon.proofs.owed_downs.enter_owed_down.Given as goal

abbrev pub invariant-loop : goal.invariant-loop
invariant-loop g l = record {
  next : (goal.iterator-loop g).can_next l.iterator';
  finite : (goal.iterator-loop g).is_finite l.iterator';
  of : IsPassOf g.J.Naming.router l.pass;
}
