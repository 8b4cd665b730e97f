use Rattle.std.proofs.Common.{◌≡◌, ◌-◌, ◌^◌, ℕ, min}
use Rattle.route_session.specs.Calls.{StaysSound}
use Rattle.neighbour_session.specs.Writing.{told_to}
use Rattle.neighbour_session.proofs.Writing.{HasWritten}
use Rattle.neighbour_session.proofs.write.write_all.Given as goal

-- what was taken so far was written, but for what was left out, and the writer goes on
abbrev pub invariant-loop : goal.invariant-loop
invariant-loop g l = record {
  next : (goal.iterator-loop g).can_next l.iterator';
  finite : (goal.iterator-loop g).is_finite l.iterator';
  pass : StaysSound l.router l.fn.pass l.pass;
  shares : l.pass.fragment.shares ≡ l.fn.pass.fragment.shares;
  count : ℕ;
  counted : l.left_out ≡ min count (2 ^ 64 - 1);
  written : HasWritten count l.session l.fn.pass.fragment (told_to l.fn.output) l.pass.fragment l.link.told;
}
