use Rattle.std.proofs.Common.{◌≡◌, drop}
use Rattle.router_options.specs.PlanView.{has_prefix}
use Rattle.router_options.proofs.plan.has_prefix.Given as goal

-- none of the nodes so far is the node
abbrev pub invariant-loop-other : goal.invariant-loop-other
invariant-loop-other l = has_prefix l.placed l.node ≡ has_prefix (drop l.other-index l.placed) l.node
