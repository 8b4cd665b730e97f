use Rattle.std.proofs.Common.{◌≡◌}
use Rattle.slot_lock.specs.Passes.{IsPassOf}
use Rattle.router_daemon.specs.Sessions.{HasWaited}
use Rattle.router_daemon.proofs.supervisor.open_session.Given as goal

-- nothing was entered so far
abbrev pub invariant-loop : goal.invariant-loop
invariant-loop g l = record {
  next : (goal.iterator-loop g).can_next l.iterator';
  finite : (goal.iterator-loop g).is_finite l.iterator';
  of : IsPassOf g.J.Naming.router l.pass;
  shares : l.pass.fragment.shares ≡ l.fn.pass.fragment.shares;
  waited : HasWaited g.J.Naming.router l.fn.pass l.pass;
}
