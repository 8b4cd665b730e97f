use Rattle.std.proofs.Common.{◌*◌, ◌+◌, ◌≤◌}
use Rattle.slot_lock.specs.Passes.{IsPassOf}
use Rattle.route_session.proofs.Turning.{TakenSoFar}
use Rattle.route_session.proofs.Writing.{IsWriting}
use Rattle.route_session.proofs.writer.write_turns.Given as goal

abbrev pub invariant-loop-turn : goal.invariant-loop-turn
invariant-loop-turn g l = record {
  pass : IsPassOf l.router l.pass;
  writing : IsWriting l.fn.newest_only l.fn.router l.fn.session l.fn.pass (g.L.Link.trace l.fn.link) l.sent l.left_out l.pass
      (g.L.Link.trace l.link);
  turned : TakenSoFar (g.G.Gate.may_answer l.gate l.job) l.turn l.fn.pass.fragment l.pass.fragment;
  room : l.sent + l.left_out ≤ 16 * l.turn;
}
