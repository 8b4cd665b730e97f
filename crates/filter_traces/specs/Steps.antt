-- What is told of a whole run, and where it was decided: by the machine's configurations, in their order. (This project's own choice.)
use Rattle.std.specs.Prelude.{ℕ, zero, suc, ◌+◌, List, [], ◌++◌, Option, Some, None, length, slice_get}
use Rattle.filter_code.specs.CodeView.{CodeView}
use Rattle.filter_code.specs.Machine.{State, Going, Ended, after}
use Rattle.filter_code.specs.RouteView.{RouteView}
use Rattle.filter_code.specs.declared.instruction.Instr.{Instr}
use Rattle.filter_traces.specs.Shown.{seen, step_line}
use Rattle.filter_traces.specs.TracedView.{TracedView}
use Rattle.filter_traces.specs.declared.seen.Seen.{Seen}

-- what is told of a step, by the instruction at its place
abbrev pub line_by : TracedView → ℕ → Seen → Option Instr → List ℕ
line_by t place s None = []
line_by t place s (Some i) = step_line t place i s

-- what is told of the step from one state to the next; of the step that ends the run nothing is told here
abbrev pub line_between : TracedView → State → State → List ℕ
line_between t (Going c) (Going d) = line_by t c.pc (seen c d) (slice_get t.program.instrs c.pc)
line_between t (Going c) (Ended end) = []
line_between t (Ended end) state = []

-- what is told of the first n steps of the run on a route, one after another
unfoldable pub lines_of : TracedView → RouteView → ℕ → List ℕ
lines_of t route zero = []
lines_of t route (suc n) = lines_of t route n ++ line_between t (after t.program route n) (after t.program route (suc n))

-- all steps: a run ends within one step more than there are instructions
abbrev pub all_lines : TracedView → RouteView → List ℕ
all_lines t route = lines_of t route (length t.program.instrs + 1)

-- the place of a configuration; where the run has ended, the one before it
abbrev pub place_or : ℕ → State → ℕ
place_or before (Going c) = c.pc
place_or before (Ended end) = before

-- the place of the last configuration among the first n states
unfoldable pub last_place : CodeView → RouteView → ℕ → ℕ
last_place program route zero = 0
last_place program route (suc n) = place_or (last_place program route n) (after program route n)

-- the place of the instruction that ended the run
abbrev pub deciding_place : CodeView → RouteView → ℕ
deciding_place program route = last_place program route (length program.instrs + 1)
