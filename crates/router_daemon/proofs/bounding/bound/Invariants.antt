use Rattle.std.proofs.Common.{◌≡◌}
use Rattle.std.specs.Option.{option_map}
use Rattle.slot_lock.specs.Passes.{IsPassOf}
use Rattle.router_daemon.specs.Running.{keep_of}
use Rattle.router_daemon.proofs.bounding.bound.Given as goal

abbrev pub invariant-loop : goal.invariant-loop
invariant-loop g l = record {
  next : (goal.iterator-loop g).can_next l.iterator';
  finite : (goal.iterator-loop g).is_finite l.iterator';
  of : IsPassOf g.J.Naming.router l.pass;
  same : option_map keep_of l.forgetter.saver ≡ option_map keep_of l.fn.forgetter.saver;
}
