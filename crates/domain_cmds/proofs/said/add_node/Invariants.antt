use Rattle.std.proofs.Common.{◌≡◌, ◌≢◌, All, take}
use Rattle.domain_cmds.proofs.said.add_node.Given as goal

-- of none so far distances come to these
abbrev pub invariant-loop-k : goal.invariant-loop-k
invariant-loop-k l = record {
  none : All (λ effect. effect.distances.items ≢ l.distances.items) (take l.k l.fn.effects.items);
  same : l.effects.items ≡ l.fn.effects.items;
}
