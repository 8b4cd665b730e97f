use Rattle.refusal_words.specs.Positions.{IsPosition}
use Rattle.refusal_words.proofs.position.count_on.Given as goal

abbrev pub invariant-loop-i : goal.invariant-loop-i
invariant-loop-i l = IsPosition l.text l.i l.position
