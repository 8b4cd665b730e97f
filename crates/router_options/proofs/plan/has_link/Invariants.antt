use Rattle.std.proofs.Common.{◌≡◌, drop}
use Rattle.router_options.specs.PlanView.{has_link}
use Rattle.router_options.proofs.plan.has_link.Given as goal

-- none of the links so far leads to the node
abbrev pub invariant-loop-link : goal.invariant-loop-link
invariant-loop-link l = has_link l.links l.node ≡ has_link (drop l.link-index l.links) l.node
