use Rattle.std.proofs.Common.{◌≡◌, ◌<◌, ℕ, length}
use Rattle.std.specs.Prelude.{slice_index}
use Rattle.filter_code.specs.Machine.{Going, after}
use Rattle.filter_traces.specs.Hits.{comes_within, counted_up}
use Rattle.filter_traces.proofs.traced.Traced.count_run.Given as goal

-- the run has come to a configuration, and each place that it came to before is counted
abbrev pub invariant-loop-taken : goal.invariant-loop-taken
invariant-loop-taken l = record {
  here : after l.self.program l.route l.taken ≡ Going l.running;
  counted : (k : ℕ) → k < length l.counts
      → slice_index l.counts k ≡ counted_up (comes_within l.self.program l.route k l.taken) (slice_index l.fn.counts k);
}
