use Rattle.std.proofs.Common.{◌≡◌, ◌≤◌, ◌-◌, length}
use Rattle.filter_code.specs.Steps.{config_of, operands_in}
use Rattle.filter_code.proofs.Runs.{ReachesIn}
use Rattle.filter_code.proofs.machine.run_steps.Given as goal

-- the run comes in so many steps to the configuration that the variables are
abbrev pub invariant-loop-instr : goal.invariant-loop-instr
invariant-loop-instr l =
    ReachesIn l.code l.route l.steps (config_of l.pc (operands_in l.stack l.depth) l.locals l.metric)
    × (l.depth ≤ 32) × (length l.stack ≡ 32)

abbrev pub decreases-loop-instr : goal.decreases-loop-instr
decreases-loop-instr l = length l.instrs - l.pc
