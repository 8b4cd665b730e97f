use Rattle.netchange_core.proofs.Listed.{Told}
use Rattle.netchange_core.proofs.telling.tell_all.Given as goal

abbrev pub invariant-loop-session : goal.invariant-loop-session
invariant-loop-session l = Told l.opening l.node l.dist l.present l.session-index l.initial.neighbours l.neighbours
