-- The service answers, or the router ends.
use Rattle.std.proofs.Common.{refl}
use Rattle.router_daemon.proofs.RequestGate.{as_itself, as_over}
use Rattle.router_daemon.proofs.request_gate.GatedServiceService.answer.Goals as goal

pub returns-then-not-begin-clause-ok : goal.returns-then-not-begin-clause-ok
returns-then-not-begin-clause-ok g c =
    as_over g.S.Service.answers c.args.self.now.service.now _ c.args.number c.args.line.now c.args.out.now.items c.args.out.now.items refl refl

pub returns-clause-ok : goal.returns-clause-ok
returns-clause-ok g c =
    as_itself g.S.Service.answers c.args.self.now.service.now _ c.args.number c.args.line.now c.args.out.now.items
    c.answer-answered.new.out.items c.answer-answered.result c.answer-answered.ensures.ok
