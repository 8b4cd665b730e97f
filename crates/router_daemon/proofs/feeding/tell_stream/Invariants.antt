use Rattle.std.proofs.Common.{◌≡◌}
use Rattle.route_feed.specs.Feeding.{HasFed, seen_by}
use Rattle.slot_lock.specs.Passes.{IsPassOf}
use Rattle.router_daemon.proofs.feeding.tell_stream.Given as goal

-- the stream was told the history as far as the pass has seen it
abbrev pub invariant-loop : goal.invariant-loop
invariant-loop g l = record {
  next : (goal.iterator-loop g).can_next l.iterator';
  finite : (goal.iterator-loop g).is_finite l.iterator';
  of : IsPassOf g.J.Naming.router l.pass;
  opening : l.feed.opening ≡ g.J.Naming.router.opening;
  fed : HasFed l.feed (seen_by g.J.Naming.router l.pass);
}
