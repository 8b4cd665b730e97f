use Rattle.std.proofs.Common.{◌≡◌, map, take}
use Rattle.router_options.specs.declared.parts.LinkFiles.{LinkFiles}
use Rattle.router_daemon.proofs.shared.nodes_of.Given as goal

abbrev pub invariant-loop-link : goal.invariant-loop-link
invariant-loop-link l = l.nodes.items ≡ map (λ (link : LinkFiles). link.node) (take l.link-index l.links)
