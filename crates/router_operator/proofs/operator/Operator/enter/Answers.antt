-- The answer to the call is the answer to the event.
use Rattle.operator_cmds.proofs.Answering.{answers}
use Rattle.router_operator.proofs.Entering.{call_answers, call_told}
use Rattle.router_operator.proofs.operator.Operator.enter.Goals as goal

pub returns-clause-ok : goal.returns-clause-ok
returns-clause-ok g c =
    let i = c.self.inside in
    answers c.answer_call.result _ _ c.args.out.now.items c.answer_call.new.out.items
    (call_answers c.args.self.now i.router.now i.pass c.call-called.new.pass i.filters.entries i.links.now i.has_quit i.size i.limit
    c.self.view_is c.self.invariant.0 c.args.event c.call-called.result c.call-called.ensures.pass.1 c.call-called.ensures.answered
    c.call-called.ensures.refused)
    c.answer_call.ensures.ok

pub returns-clause-notified : goal.returns-clause-notified
returns-clause-notified g c =
    let i = c.self.inside in
    call_told c.args.self.now i.router.now i.pass c.call-called.new.pass i.filters.entries i.links.now i.has_quit i.size i.limit
    c.self.view_is c.self.invariant.0 c.args.event c.call-called.result c.call-called.ensures.pass.1 c.call-called.ensures.answered
    c.call-called.ensures.refused g.L.Listener.is_notified c.exported_by-exported.result c.exported_by-exported.ensures c.answer_call.ensures.notified
