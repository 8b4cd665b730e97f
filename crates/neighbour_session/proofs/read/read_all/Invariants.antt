use Rattle.std.proofs.Common.{◌≡◌}
use Rattle.route_session.specs.Calls.{StaysSound}
use Rattle.neighbour_session.specs.Reading.{told_by}
use Rattle.neighbour_session.proofs.Reading.{HasRead}
use Rattle.neighbour_session.proofs.read.read_all.Given as goal

-- each message that was handed out so far was entered, and the reader goes on
abbrev pub invariant-loop : goal.invariant-loop
invariant-loop g l = record {
  next : (goal.iterator-loop g).can_next l.iterator';
  finite : (goal.iterator-loop g).is_finite l.iterator';
  pass : StaysSound l.router l.fn.pass l.pass;
  shares : l.pass.fragment.shares ≡ l.fn.pass.fragment.shares;
  read : HasRead l.session l.fn.pass.fragment (told_by l.fn.input) l.pass.fragment l.link.told;
}
