use Rattle.std.proofs.Common.{◌-◌, length}
use Rattle.filter_diff.specs.Marking.{AreSound, Extend}
use Rattle.filter_diff.proofs.Seen.{SeenTo}
use Rattle.filter_diff.proofs.reaching.mark_route.Given as goal

-- the run comes to the configuration that it has, and what it came to before is marked
abbrev pub invariant-loop-instr : goal.invariant-loop-instr
invariant-loop-instr l = record {
  seen : SeenTo l.code l.route l.marks l.running;
  more : Extend l.initial.marks l.marks;
  sound : AreSound l.code l.route.size l.initial.marks → AreSound l.code l.route.size l.marks;
}

abbrev pub decreases-loop-instr : goal.decreases-loop-instr
decreases-loop-instr l = length l.instrs - l.running.pc
