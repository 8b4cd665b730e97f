use Rattle.std.proofs.Common.{◌≡◌, drop}
use Rattle.router_operator.specs.Operators.{has_link}
use Rattle.router_operator.proofs.questions.has_link.Given as goal

-- none of the links so far is the node's
abbrev pub invariant-loop-linked : goal.invariant-loop-linked
invariant-loop-linked l = has_link l.links l.node ≡ has_link (drop l.linked-index l.links) l.node
