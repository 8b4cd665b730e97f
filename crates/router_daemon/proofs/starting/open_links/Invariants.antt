use Rattle.router_daemon.specs.Passes.{IsLegalPass}
use Rattle.router_daemon.proofs.starting.open_links.Given as goal

abbrev pub invariant-loop : goal.invariant-loop
invariant-loop g l = record {
  next : (goal.iterator-loop g).can_next l.iterator';
  finite : (goal.iterator-loop g).is_finite l.iterator';
  legal : IsLegalPass g.J.Naming.router l.pass;
}
