use Rattle.std.proofs.Common.{◌≡◌, Some, arith, rules}
use Rattle.std.specs.Prelude.{slice_get}
use Rattle.std.proofs.lemmas.Grind.{common_steps}
use Rattle.std.proofs.lemmas.Option.{gets, slice_get-get_or}
use Rattle.filter_diff.proofs.Explored.{explored_here}
use Rattle.filter_diff.proofs.exploring.is_explored_now.Goals as goal

pub returns-then-is_full : goal.returns-then-is_full
returns-then-is_full c next_explored =
    let here : slice_get c.args.code.now.instrs c.args.place ≡ Some c.index-instrs-place.result = grind (arith, common_steps, gets) in
    explored_here c.args.code.now c.args.marks.now c.args.place c.index-instrs-place.result _ here
    (slice_get-get_or c.args.marks.now c.args.place _ (omega (arith, c.requires.place, c.requires.marks)))
    (c.if-is_full.ensures (search rules)) c.args.explored.now c.requires.explored (c.are_next_explored.ensures next_explored)
