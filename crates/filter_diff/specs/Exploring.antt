-- Places from which on all that any run comes to is marked.
use Rattle.std.specs.Prelude.{◌≡◌, ◌⊎◌, ℕ, ◌+◌, ◌≤◌, Bool, true, Some, List, slice_get}
use Rattle.filter_code.specs.declared.instruction.Instr.{Instr}
use Rattle.filter_code.specs.declared.instruction.Instr.TheVariants as instr
use Rattle.filter_code.specs.CodeView.{CodeView}
use Rattle.filter_code.specs.Machine.{Config, Going, after}
use Rattle.filter_code.specs.RouteView.{RouteView}
use Rattle.filter_diff.specs.Marking.{IsMarked}
use Rattle.filter_diff.specs.declared.mark.Mark.{Mark}

-- after an instruction at a place this one may be next
abbrev pub Leads : Instr → ℕ → ℕ → Type 0
Leads instr.Accept place next = ⊥
Leads instr.Reject place next = ⊥
Leads (instr.Jump skipped) place next = next ≡ place + (1 + skipped)
Leads (instr.JumpIfNot skipped) place next = (next ≡ place + 1) ⊎ (next ≡ place + (1 + skipped))
Leads _ place next = next ≡ place + 1

-- a run that comes to a place comes from there on to nothing that is not marked
abbrev pub IsExplored : CodeView → List Mark → ℕ → Type 0
IsExplored program marks place = (route : RouteView) (from : ℕ) (c : Config) → after program route from ≡ Going c → c.pc ≡ place →
    (steps : ℕ) (d : Config) → from ≤ steps → after program route steps ≡ Going d → IsMarked program marks d

-- so it is with each place that is found
abbrev pub AreExplored : CodeView → List Mark → List Bool → Type 0
AreExplored program marks explored = (place : ℕ) → slice_get explored place ≡ Some true → IsExplored program marks place
