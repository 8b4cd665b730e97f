-- The answer to what the line asks for is the answer to the line.
use Rattle.std.proofs.Common.{Some, None, ap, sym, ◌∙◌}
use Rattle.router_operator.specs.declared.questions.Question.TheVariants as question
use Rattle.router_operator.proofs.Answering.{as_asked}
use Rattle.router_operator.proofs.operator.OperatorService.answer.Goals as goal

pub returns-in-Some-Quit-clause-ok : goal.returns-in-Some-Quit-clause-ok
returns-in-Some-Quit-clause-ok g c =
    as_asked c.args.self.now c.quit.new.self c.args.number c.args.line.now c.quit.result c.args.out.now.items c.quit.new.out.items
    (Some question.Quit) (sym (c.in-Some-Quit.is ∙ ap Some c.in-Some-Quit.field-0-is) ∙ c.question_in.ensures) c.quit.ensures.ok

pub returns-in-Some-Status-clause-ok : goal.returns-in-Some-Status-clause-ok
returns-in-Some-Status-clause-ok g c =
    as_asked c.args.self.now c.status.new.self c.args.number c.args.line.now c.status.result c.args.out.now.items c.status.new.out.items
    (Some (question.Status c.in-Some-Status.form)) (sym (c.in-Some-Status.is ∙ ap Some c.in-Some-Status.field-0-is) ∙ c.question_in.ensures)
    c.status.ensures.ok

pub returns-in-Some-Routes-clause-ok : goal.returns-in-Some-Routes-clause-ok
returns-in-Some-Routes-clause-ok g c =
    as_asked c.args.self.now c.routes.new.self c.args.number c.args.line.now c.routes.result c.args.out.now.items c.routes.new.out.items
    (Some question.Routes) (sym (c.in-Some-Routes.is ∙ ap Some c.in-Some-Routes.field-0-is) ∙ c.question_in.ensures) c.routes.ensures.ok

pub returns-in-None-clause-ok : goal.returns-in-None-clause-ok
returns-in-None-clause-ok g c =
    as_asked c.args.self.now c.command.new.self c.args.number c.args.line.now c.command.result c.args.out.now.items c.command.new.out.items
    None (sym c.in-None.is ∙ c.question_in.ensures) c.command.ensures.ok
