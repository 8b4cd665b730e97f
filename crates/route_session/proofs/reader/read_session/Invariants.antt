use Rattle.std.proofs.Common.{◌≤◌}
use Rattle.slot_lock.specs.Passes.{IsPassOf}
use Rattle.route_session.proofs.Reading.{IsReading}
use Rattle.route_session.proofs.Turning.{ReadSoFar}
use Rattle.route_session.proofs.reader.read_session.Given as goal

abbrev pub invariant-loop-turn : goal.invariant-loop-turn
invariant-loop-turn g l = record {
  pass : IsPassOf l.router l.pass;
  reading : IsReading l.fn.router l.fn.session l.fn.pass (g.L.Link.trace l.fn.link) l.entered l.pass (g.L.Link.trace l.link);
  turned : ReadSoFar (g.G.Gate.may_answer l.gate l.job) l.turn l.entered (g.L.Link.trace l.fn.link) (g.L.Link.trace l.link);
  room : l.entered ≤ l.turn;
}
