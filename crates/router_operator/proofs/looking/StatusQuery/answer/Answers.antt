-- What the router is about is told of each history that the journal may have the end of.
use Rattle.router_status.specs.Status.{status_view}
use Rattle.router_operator.proofs.Showing.{told_status}
use Rattle.router_operator.proofs.looking.StatusQuery.answer.Goals as goal

pub returns-clause-ok : goal.returns-clause-ok
returns-clause-ok c =
    told_status c.args.journal.now (status_view c.args.self.now.status) (status_view c.complete.new.self) c.args.self.now.form c.args.out.now.items
    c.answer_status.new.out.items c.answer_status.result c.in_ok-complete.ensures c.answer_status.ensures.ok
