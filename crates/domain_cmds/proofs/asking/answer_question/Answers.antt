-- The answer to a kind of question is the answer to the question.
use Rattle.std.proofs.Common.{List, Option, Vec, Global, IfOk, subst, sym}
use Rattle.std.specs.Option.{option_map}
use Rattle.std.specs.declared.sync.Arc.{Arc}
use Rattle.operator_cmds.specs.Replies.{Answers}
use Rattle.domain_routes.specs.PlanView.{PlanView}
use Rattle.domain_routes.specs.declared.best.Best.{Best}
use Rattle.domain_cmds.specs.Script.{AnswersQuestion, IsPathAnswer}
use Rattle.domain_cmds.specs.declared.command.Question.{Question}
use Rattle.domain_cmds.proofs.asking.answer_question.Goals as goal

-- the routes at the last `mark`
abbrev marks : Option (Arc (Vec (List Best) Global) Global) → Option (List (List Best))
marks = option_map (λ m. m.value.items)

pub returns-in-Path-clause-ok : goal.returns-in-Path-clause-ok
returns-in-Path-clause-ok c =
    let old = c.args.out.now.items in
    let new = c.answer_path.new.out.items in
    subst
    (λ (q : Question). IfOk c.answer_path.result
    (Answers (AnswersQuestion q c.args.domain.now (marks c.args.marked.now) c.args.since.now c.args.number) old new))
    (sym c.in-Path.is)
    (subst
    (λ (plan : PlanView). IfOk c.answer_path.result (Answers (IsPathAnswer plan c.args.number c.in-Path.u c.in-Path.v) old new))
    c.plan-in-Path.ensures c.answer_path.ensures.ok)

pub returns-in-Settle-clause-ok : goal.returns-in-Settle-clause-ok
returns-in-Settle-clause-ok c =
    subst
    (λ (q : Question). IfOk c.answer_settle.result
    (Answers (AnswersQuestion q c.args.domain.now (marks c.args.marked.now) c.args.since.now c.args.number) c.args.out.now.items c.answer_settle.new.out.items))
    (sym c.in-Settle.is) c.answer_settle.ensures.ok
