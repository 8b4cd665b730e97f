use Rattle.route_answers.proofs.Reading.{HasRead}
use Rattle.route_answers.proofs.all_sizes.reads_first.Given as goal

abbrev pub invariant-loop-instr : goal.invariant-loop-instr
invariant-loop-instr l = HasRead l.instrs l.instr-index l.is_set
