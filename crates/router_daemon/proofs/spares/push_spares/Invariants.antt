use Rattle.std.proofs.Common.{◌≡◌, ◌++◌}
use Rattle.router_daemon.specs.Spares.{spares_below}
use Rattle.router_daemon.proofs.spares.push_spares.Given as goal

-- those among the lesser nodes are added
abbrev pub invariant-loop-node : goal.invariant-loop-node
invariant-loop-node l = l.nodes.items ≡ l.fn.nodes.items ++ spares_below l.me l.links l.node
