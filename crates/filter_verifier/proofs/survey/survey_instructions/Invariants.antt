use Rattle.std.proofs.Common.{◌≡◌, []}
use Rattle.filter_verifier.proofs.Surveys.{Kept}
use Rattle.filter_verifier.proofs.survey.survey_instructions.Given as goal

-- what waits for the indices to come, and what was kept of those below; the stack of the sweep is empty
abbrev pub invariant-loop-at : goal.invariant-loop-at
invariant-loop-at l = record {
  kept : Kept l.code l.size l.at l.waiting.items l.in_states.items l.depth;
  empty : l.stack ≡ [];
}
