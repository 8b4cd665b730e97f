use Rattle.std.proofs.Common.{[]}
use Rattle.route_session.specs.Calls.{Gained, StaysSound}
use Rattle.neighbour_session.specs.Waiting.{IsFull}
use Rattle.neighbour_session.proofs.waiting.enter_later.Given as goal

-- nothing was entered so far, and the history is full
abbrev pub invariant-loop : goal.invariant-loop
invariant-loop g l = record {
  next : (goal.iterator-loop g).can_next l.iterator';
  finite : (goal.iterator-loop g).is_finite l.iterator';
  pass : StaysSound l.router l.fn.pass l.pass;
  gained : Gained l.fn.pass.fragment [] l.pass.fragment;
  full : IsFull l.router l.pass.fragment;
}
