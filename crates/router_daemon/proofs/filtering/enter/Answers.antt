use Rattle.router_daemon.proofs.Entering.{legal_called}
use Rattle.router_daemon.proofs.filtering.enter.Goals as goal

pub returns-clause-legal : goal.returns-clause-legal
returns-clause-legal g c =
    legal_called c.args.router.now c.args.pass.now c.call.new.pass c.args.event c.call.result c.call.ensures.pass.0 c.requires
    c.call.ensures.answered c.call.ensures.refused
