-- What is told of the plan is told of the domain, in which prefixes stay from now on.
use Rattle.domain_cmds.proofs.Carrying.{asked}
use Rattle.domain_cmds.proofs.Noting.{kept_still}
use Rattle.domain_cmds.proofs.planning.Planning.ask.Goals as goal

pub invariant_of-self : goal.invariant_of-self
invariant_of-self c =
    let i = c.self.inside in
    kept_still i.filters.size i.since i.domain i.origins i.filters.named c.self.invariant c.answer_question.new.domain c.answer_question.ensures.same

pub returns-clause-ok : goal.returns-clause-ok
returns-clause-ok c =
    let i = c.self.inside in
    asked c.answer_question.result c.args.out.now.items c.answer_question.new.out.items c.args.self.now i.domain i.begun _ i.since c.args.number
    c.answer_question.new.domain i.filters.named c.args.question c.self.view_is c.answer_question.ensures.same c.answer_question.ensures.ok
