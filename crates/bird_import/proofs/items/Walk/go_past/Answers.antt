use Rattle.std.proofs.Common.{arith}
use Rattle.bird_import.proofs.items.Walk.go_past.Goals as goal

pub returns-in_ok-take-in-Some : goal.returns-in_ok-take-in-Some
returns-in_ok-take-in-Some c = λ so_far. c.in_ok-take-in-Some.ensures c.args.words.now c.args.at (omega arith) c.in_ok-item-in-Some.ensures so_far
