use Rattle.bird_import.specs.Sets.{IsReplaced}
use Rattle.bird_import.proofs.sets.is_replaced.Given as goal

abbrev pub invariant-loop : goal.invariant-loop
invariant-loop l = IsReplaced l.name l.set l.left l.rest → IsReplaced l.name l.set l.words l.written
