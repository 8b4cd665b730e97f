use Rattle.std.proofs.Common.{◌≡◌, drop}
use Rattle.router_options.specs.PlanView.{has_use}
use Rattle.router_options.proofs.plan.has_use.Given as goal

-- none of the uses so far is at the node
abbrev pub invariant-loop-used : goal.invariant-loop-used
invariant-loop-used l = has_use l.uses l.node ≡ has_use (drop l.used-index l.uses) l.node
