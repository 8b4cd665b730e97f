-- The pieces of a step.
use Rattle.std.specs.Prelude.{ℕ, Option, List, reverse, take}
use Rattle.filter_code.specs.declared.machine.Stop.{Stop}
use Rattle.filter_code.specs.declared.machine.Stop.TheVariants as stop
use Rattle.filter_code.specs.declared.outcome.Outcome.{Outcome}
use Rattle.filter_code.specs.declared.outcome.Outcome.TheVariants as outcome
use Rattle.filter_code.specs.declared.value.Value.{Value}
use Rattle.filter_code.specs.Machine.{Config}
use Rattle.filter_code.specs.Table.{Frame}

-- the operands, the top first, where this many values of an array are in use
abbrev pub operands_in : List Value → ℕ → List Value
operands_in stack depth = reverse (take depth stack)

-- a configuration of its parts
abbrev pub config_of : ℕ → List Value → List (Option Value) → ℕ → Config
config_of pc stack locals metric =
    let frame : Frame Value = record { stack = stack; locals = locals } in
    record { pc = pc; frame = frame; metric = metric }

-- the outcome of a run that an instruction ends at a place
abbrev pub stopped : Stop → ℕ → Outcome
stopped (stop.Accept metric) pc = outcome.Accept metric
stopped stop.Reject pc = outcome.Reject
stopped (stop.Fault kind) pc = outcome.Fault kind pc
