-- Where a run of code comes to in some number of steps, and how it ends.
use Rattle.std.proofs.Common.{◌≡◌, ℕ, ◌+◌, Some}
use Rattle.std.specs.Prelude.{slice_get}
use Rattle.filter_code.specs.declared.instruction.Instr.{Instr}
use Rattle.filter_code.specs.declared.outcome.Outcome.{Outcome}
use Rattle.filter_code.specs.RouteView.{RouteView}
use Rattle.filter_code.specs.Machine.{Config, Going, Ended, start, carry_out, outcome_of}
use Rattle.filter_code.specs.CodeView.{CodeView}
use Rattle.filter_code.proofs.Runs as runs

-- a run comes to a configuration in some number of steps
pub record Reaches (program : CodeView) (route : RouteView) (c : Config) : Type 0 where
  pub steps : ℕ
  pub here : runs.ReachesIn program route steps c

-- a run begins at its start
pub begun : (program : CodeView) (route : RouteView) → Reaches program route (start program route)
begun program route = record { steps = 0; here = runs.begun_in program route }

-- the instruction at the place is carried out, and the run goes on
pub carried_on : (program : CodeView) (route : RouteView) (c : Config) (i : Instr) (d : Config) → Reaches program route c
    → slice_get program.instrs c.pc ≡ Some i → carry_out program route c (Some i) ≡ Going d → Reaches program route d
carried_on program route c i d r here e =
    record { steps = r.steps + 1; here = runs.carried_on program route r.steps c i d r.here here e }

-- the instruction at the place is carried out, and the run is over
pub carried_over : (program : CodeView) (route : RouteView) (c : Config) (i : Instr) (end : Outcome) → Reaches program route c
    → slice_get program.instrs c.pc ≡ Some i → carry_out program route c (Some i) ≡ Ended end → end ≡ outcome_of program route
carried_over program route c i end r here e =
    runs.outcome_after program route (r.steps + 1) end (runs.carried_over program route r.steps c i end r.here here e)
