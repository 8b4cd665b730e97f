use Rattle.std.proofs.Common.{◌≡◌, map, take}
use Rattle.router_daemon.specs.Steps.{link_to}
use Rattle.router_daemon.proofs.states.links_to.Given as goal

abbrev pub invariant-loop-node : goal.invariant-loop-node
invariant-loop-node l = l.links.items ≡ map link_to (take l.node-index l.nodes)
