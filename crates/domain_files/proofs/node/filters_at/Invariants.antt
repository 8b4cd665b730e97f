use Rattle.std.proofs.Common.{◌≡◌, map}
use Rattle.domain_files.specs.Nodes.{filter_at_of, filters_below}
use Rattle.domain_files.specs.FileView.{use_of}
use Rattle.domain_files.proofs.node.filters_at.Given as goal

-- those at the lesser nodes
abbrev pub invariant-loop-node : goal.invariant-loop-node
invariant-loop-node l = map filter_at_of l.filters.items ≡ filters_below l.node (map use_of l.uses) l.direction l.me
