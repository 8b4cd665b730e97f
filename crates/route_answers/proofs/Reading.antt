-- A pass over instructions that looks for one that reads the metric behind one that sets it.
use Rattle.std.proofs.Common.{◌≡◌, ℕ, ◌<◌, Bool, true, List, Some}
use Rattle.std.specs.Prelude.{slice_get}
use Rattle.filter_code.specs.declared.instruction.Instr.{Instr}
use Rattle.filter_code.specs.declared.instruction.Instr.TheVariants as instr

-- of the instructions before an index: whether one sets the metric, and none behind such reads it
pub record HasRead (instrs : List Instr) (index : ℕ) (is_set : Bool) : Type 0 where
  pub noted : (set : ℕ) → set < index → slice_get instrs set ≡ Some instr.SetMetric → is_set ≡ true
  pub first : (set read : ℕ) → set < index → read < index → slice_get instrs set ≡ Some instr.SetMetric
      → slice_get instrs read ≡ Some instr.Metric → read < set
