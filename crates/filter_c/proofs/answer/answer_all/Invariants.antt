-- The routes so far are answered, and what is behind is as it was.
use Rattle.filter_c.proofs.Answering.{AnswersTo}
use Rattle.filter_c.proofs.answer.answer_all.Given as goal

abbrev pub invariant-loop-i : goal.invariant-loop-i
invariant-loop-i l = AnswersTo l.verified l.routes l.i l.fn.answers l.answers
