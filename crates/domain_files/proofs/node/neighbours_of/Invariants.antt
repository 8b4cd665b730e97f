use Rattle.std.proofs.Common.{◌≡◌}
use Rattle.domain_cmds.specs.Failures.{lists_below}
use Rattle.domain_files.specs.Nodes.{neighbour_at}
use Rattle.domain_files.proofs.node.neighbours_of.Given as goal

-- the neighbours among the lesser nodes
abbrev pub invariant-loop-w : goal.invariant-loop-w
invariant-loop-w l = l.nodes.items ≡ lists_below l.w (neighbour_at l.plan l.me)
