use Rattle.router_operator.proofs.Putting.{PutsBefore}
use Rattle.router_operator.proofs.operator.Operator.put_each.Given as goal

-- the uses so far are in force
abbrev pub invariant-loop-used : goal.invariant-loop-used
invariant-loop-used g l = PutsBefore l.checks l.fn.self l.uses l.used-index l.fn.out.items l.out.items l.self
