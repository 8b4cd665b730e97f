use Rattle.std.proofs.Common.{◌≡◌}
use Rattle.netchange_core.specs.Openings.{default_prefixes}
use Rattle.netchange_core.proofs.prefixes.default_prefixes.Given as goal

-- the prefixes of the nodes so far
abbrev pub invariant-loop-node : goal.invariant-loop-node
invariant-loop-node l = l.all.items ≡ default_prefixes l.node
