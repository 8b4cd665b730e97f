use Rattle.std.proofs.Common.{◌≡◌, ◌++◌}
use Rattle.std.specs.Prelude.{slice_index}
use Rattle.filter_traces.specs.Commands.{chosen_lines}
use Rattle.filter_traces.proofs.traced.Traced.push_commands.Given as goal

abbrev pub invariant-loop-at : goal.invariant-loop-at
invariant-loop-at l = l.out.items ≡ l.fn.out.items ++ chosen_lines l.self l.is_reached (slice_index l.counts) l.at
