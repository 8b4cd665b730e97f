use Rattle.ncroute.proofs.trying.answer_routes.Goals as goal

pub returns-in-Verdicts-clause-finished : goal.returns-in-Verdicts-clause-finished
returns-in-Verdicts-clause-finished g c = λ size is. rw c.in-Verdicts.is (c.judge_routes.ensures.finished size c.args.text.now is)

pub returns-in-Verdicts-clause-stopped : goal.returns-in-Verdicts-clause-stopped
returns-in-Verdicts-clause-stopped g c = λ size is. rw c.in-Verdicts.is (c.judge_routes.ensures.stopped size c.args.text.now is)

pub returns-in-Reasons-clause-finished : goal.returns-in-Reasons-clause-finished
returns-in-Reasons-clause-finished g c = λ size is. rw c.in-Reasons.is (c.explain_verdicts.ensures.finished size is)

pub returns-in-Reasons-clause-stopped : goal.returns-in-Reasons-clause-stopped
returns-in-Reasons-clause-stopped g c = λ size is. rw c.in-Reasons.is (c.explain_verdicts.ensures.stopped size is)

pub returns-in-Coverage-clause-finished : goal.returns-in-Coverage-clause-finished
returns-in-Coverage-clause-finished g c = λ size is. rw c.in-Coverage.is (c.count_routes.ensures.finished size is)

pub returns-in-Coverage-clause-stopped : goal.returns-in-Coverage-clause-stopped
returns-in-Coverage-clause-stopped g c = λ size is. rw c.in-Coverage.is (c.count_routes.ensures.stopped size is)
