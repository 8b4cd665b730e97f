use Rattle.std.proofs.Common.{ap, ◌∙◌, arith}
use Rattle.bird_import.proofs.Including.{none_more, some_more}
use Rattle.bird_import.proofs.includes.find_includes.Goals as goal
use Rattle.bird_import.proofs.includes.find_includes.Goals.{in-Some+in_ok-push, in_default}

pub loop-at-preserved : goal.loop-at-preserved
loop-at-preserved c = elim c.match-include_at.branch [
  | in-Some+in_ok-push w ↦ some_more c.args.words.now c.loop-at.at c.loop-at.found.items c.match-include_at.found.items w.in-Some.include (omega arith)
      (ap (λ v. v.items) w.found-is ∙ w.in_ok-push.ensures.items) w.in-Some.ensures c.loop-at.invariant
  | in_default w ↦ none_more c.args.words.now c.loop-at.at c.loop-at.found.items c.match-include_at.found.items (omega arith)
      (ap (λ v. v.items) w.found-is) w.in_default.ensures c.loop-at.invariant
]
