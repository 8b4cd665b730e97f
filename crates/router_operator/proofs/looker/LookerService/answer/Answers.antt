-- The answer to what the line asks for is the answer to the line.
use Rattle.std.proofs.Common.{Some, None, ap, refl, rules, sym, ◌∙◌}
use Rattle.router_operator.specs.declared.questions.Question.TheVariants as question
use Rattle.router_operator.proofs.Answering.{as_looked}
use Rattle.router_operator.proofs.LookingAlone.{no_quit}
use Rattle.router_operator.proofs.looker.LookerService.answer.Goals as goal

pub returns-in-Some-Quit-clause-ok : goal.returns-in-Some-Quit-clause-ok
returns-in-Some-Quit-clause-ok g c =
    as_looked c.args.self.now c.args.self.now _ c.args.number c.args.line.now c.refuse.result c.args.out.now.items c.refuse.new.out.items
    (Some question.Quit)
    (no_quit c.args.self.now _ c.args.number c.from.result c.args.line.now c.refuse.result c.args.out.now.items c.refuse.new.out.items
    refl c.from.ensures c.refuse.ensures.ok)
    refl (sym (c.in-Some-Quit.is ∙ ap Some c.in-Some-Quit.field-0-is) ∙ c.question_in.ensures)

pub returns-in-Some-Status-clause-ok : goal.returns-in-Some-Status-clause-ok
returns-in-Some-Status-clause-ok g c =
    as_looked _ c.args.self.now c.status.new.self c.args.number c.args.line.now c.status.result c.args.out.now.items c.status.new.out.items
    (Some (question.Status _)) c.status.ensures.ok (search rules)
    (cc (c.in-Some-Status.is, c.in-Some-Status.field-0-is, c.in-Some-Status.form-is, c.question_in.ensures))

pub returns-in-Some-Routes-clause-ok : goal.returns-in-Some-Routes-clause-ok
returns-in-Some-Routes-clause-ok g c =
    as_looked _ c.args.self.now c.routes.new.self c.args.number c.args.line.now c.routes.result c.args.out.now.items c.routes.new.out.items
    (Some question.Routes) c.routes.ensures.ok (search rules)
    (sym (c.in-Some-Routes.is ∙ ap Some c.in-Some-Routes.field-0-is) ∙ c.question_in.ensures)

pub returns-in-None-clause-ok : goal.returns-in-None-clause-ok
returns-in-None-clause-ok g c =
    as_looked c.args.self.now c.args.self.now c.command.new.self c.args.number c.args.line.now c.command.result c.args.out.now.items
    c.command.new.out.items None c.command.ensures.ok refl (sym c.in-None.is ∙ c.question_in.ensures)
