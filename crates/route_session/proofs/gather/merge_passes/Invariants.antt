use Rattle.route_session.specs.Jobs.{Gathered}
use Rattle.slot_lock.specs.Passes.{IsOwn, IsPassOf}
use Rattle.route_session.proofs.gather.merge_passes.Given as goal

abbrev pub invariant-loop-job : goal.invariant-loop-job
invariant-loop-job g l = record {
  of : IsPassOf l.router l.pass;
  own : IsOwn l.fn.pass.fragment → IsOwn l.pass.fragment;
  merged : Gathered l.fn.pass.fragment l.yielded l.pass.fragment;
}
