use Rattle.router_daemon.specs.Passes.{IsLegalPass}
use Rattle.router_daemon.proofs.starting.start_links.Given as goal

abbrev pub invariant-loop-index : goal.invariant-loop-index
invariant-loop-index g l = record {
  next : (goal.iterator-loop-index g).can_next l.index-iterator;
  finite : (goal.iterator-loop-index g).is_finite l.index-iterator;
  legal : IsLegalPass g.J.Naming.router l.pass;
}
