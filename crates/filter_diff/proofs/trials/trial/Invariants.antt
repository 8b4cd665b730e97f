use Rattle.std.proofs.Common.{◌-◌, length}
use Rattle.filter_diff.proofs.Steps.{Come}
use Rattle.filter_diff.proofs.trials.trial.Given as goal

-- the runs of the class come to the configuration that the variables are
abbrev pub invariant-loop-instr : goal.invariant-loop-instr
invariant-loop-instr l = Come l.code l.class l.pc l.stack l.locals l.metric

abbrev pub decreases-loop-instr : goal.decreases-loop-instr
decreases-loop-instr l = length l.instrs - l.pc
