use Rattle.std.proofs.Common.{◌-◌, length}
use Rattle.filter_diff.specs.Marking.{AreSound, Extend}
use Rattle.filter_diff.proofs.Reached.{ComeMarked}
use Rattle.filter_diff.proofs.reaching.mark_run.Given as goal

-- the runs of the class come to the configuration that the variables are, and what they came to before is marked
abbrev pub invariant-loop-instr : goal.invariant-loop-instr
invariant-loop-instr l = record {
  come : ComeMarked l.code l.class l.marks l.pc l.stack l.locals l.metric;
  more : Extend l.initial.marks l.marks;
  sound : AreSound l.code l.class.size l.initial.marks → AreSound l.code l.class.size l.marks;
}

abbrev pub decreases-loop-instr : goal.decreases-loop-instr
decreases-loop-instr l = length l.instrs - l.pc
