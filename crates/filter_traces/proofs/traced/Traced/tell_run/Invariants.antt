use Rattle.std.proofs.Common.{◌≡◌}
use Rattle.filter_code.specs.Machine.{Going, after}
use Rattle.filter_traces.specs.Steps.{last_place, lines_of}
use Rattle.filter_traces.proofs.traced.Traced.tell_run.Given as goal

-- the run has come to a configuration, and what was told of the steps to it
abbrev pub invariant-loop-taken : goal.invariant-loop-taken
invariant-loop-taken l = record {
  here : after l.self.program l.route l.taken ≡ Going l.running;
  shown_step : l.lines.items ≡ lines_of l.self l.route l.taken;
  place : l.place ≡ last_place l.self.program l.route l.taken;
}
