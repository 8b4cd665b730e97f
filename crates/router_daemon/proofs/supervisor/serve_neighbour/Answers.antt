use Rattle.router_daemon.proofs.Serving.{serves, unserved}
use Rattle.router_daemon.proofs.supervisor.serve_neighbour.Goals as goal

pub returns-clause-served : goal.returns-clause-served
returns-clause-served g c =
    serves g.J.Naming.router c.args.link.now.files.node c.args.input c.args.pass.now c.in-Ok.opened.0 c.in-Ok.opened.1
    c.open_session.new.pass c.split-writing.new.pass c.split-writing.result c.serve_opened-why.new.pass c.join.new.pass c.serve_opened-why.result.0
    c.pass.result.fragment c.requires.shares c.in-Ok.ensures.opened c.open_session.ensures.shares c.split-writing.ensures.old
    c.split-writing.ensures.new c.serve_opened-why.ensures.over c.serve_opened-why.ensures.shares c.pass.ensures.some_shares c.join.ensures.merged

pub returns-in-Err-clause-served : goal.returns-in-Err-clause-served
returns-in-Err-clause-served g c =
    unserved g.J.Naming.router c.args.link.now.files.node c.args.input c.args.pass.now c.in-Err.why c.open_session.new.pass
    c.in-Err.ensures.refused
