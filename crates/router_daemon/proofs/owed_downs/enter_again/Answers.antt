use Rattle.router_daemon.proofs.FullCalls.{is_owed}
use Rattle.router_daemon.proofs.owed_downs.enter_again.Goals as goal

pub returns-in-Err-clause-entered : goal.returns-in-Err-clause-entered
returns-in-Err-clause-entered g c =
    is_owed c.args.shared.now.router g.J.Naming.router c.in-Err.field-0 c.args.pass.now c.call.new.pass c.args.shared.now.is_named
    c.in-Err.ensures.refused
