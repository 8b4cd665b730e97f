use Rattle.router_daemon.specs.Passes.{IsLegalPass}
use Rattle.router_daemon.proofs.controls.start_controls.Given as goal

abbrev pub invariant-loop-files : goal.invariant-loop-files
invariant-loop-files g l = record {
  next : (goal.iterator-loop-files g).can_next l.files-iterator;
  finite : (goal.iterator-loop-files g).is_finite l.files-iterator;
  legal : IsLegalPass g.J.Naming.router l.pass;
}
