-- The history was looked at, and nothing else.
use Rattle.router_operator.proofs.Putting.{left_after, look_breaks}
use Rattle.router_operator.proofs.operator.Operator.put.Goals as goal

pub returns-in_err-differs-clause-left : goal.returns-in_err-differs-clause-left
returns-in_err-differs-clause-left g c =
    left_after c.from_residual-in_err-differs.result _ (look_breaks c.args.self.now c.look_for.new.self c.in_ok-met.ensures.looks)
