-- How runs of one code differ in domains of different sizes. (This project's own choice.)
use Rattle.std.specs.Prelude.{◌≡◌, ℕ, ◌<◌, List, Some, min, slice_get}
use Rattle.filter_code.specs.declared.instruction.Instr.{Instr}
use Rattle.filter_code.specs.declared.instruction.Instr.TheVariants as instr
use Rattle.filter_code.specs.declared.outcome.Outcome.{Outcome}
use Rattle.filter_code.specs.declared.outcome.Outcome.TheVariants as outcome

-- no instruction reads the metric behind one that sets it; jumps go forward alone, so a run reads no metric that it set
abbrev pub ReadsFirst : List Instr → Type 0
ReadsFirst instrs = (set read : ℕ) → slice_get instrs set ≡ Some instr.SetMetric → slice_get instrs read ≡ Some instr.Metric → read < set

-- the outcome in a domain of a size: a metric above it becomes the size, which is that of what cannot be reached
abbrev pub clipped : ℕ → Outcome → Outcome
clipped size (outcome.Accept metric) = outcome.Accept (min metric size)
clipped size outcome.Reject = outcome.Reject
clipped size (outcome.Fault why at) = outcome.Fault why at
