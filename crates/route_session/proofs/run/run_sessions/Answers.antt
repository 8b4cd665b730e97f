use Rattle.route_session.proofs.Back.{come_back_if_ok}
use Rattle.route_session.proofs.run.run_sessions.Goals as goal

pub returns-clause-passes : goal.returns-clause-passes
returns-clause-passes g c =
    come_back_if_ok g.L.Link.trace (g.G.Gate.may_answer c.args.gate.now) c.args.turns c.args.router.now 0 c.args.jobs.items c.run_from.result c.run_from.ensures
