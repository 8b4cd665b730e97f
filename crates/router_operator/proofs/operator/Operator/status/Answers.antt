-- What the router is about is looked at, beside what the listener knows of it.
use Rattle.router_operator.proofs.Seeing.{status_looked}
use Rattle.router_operator.proofs.operator.Operator.status.Goals as goal

pub returns-clause-ok : goal.returns-clause-ok
returns-clause-ok g c =
    status_looked (record { status = c.in_ok-status.status; form = c.args.form }) c.args.number c.args.self.now c.look.new.self c.look.result
    c.args.out.now.items c.look.new.out.items c.look.ensures.ok
