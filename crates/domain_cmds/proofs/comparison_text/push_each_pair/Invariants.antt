use Rattle.std.proofs.Common.{◌≡◌, ◌++◌, flat_map, drop}
use Rattle.operator_cmds.specs.Replies.{pair_text}
use Rattle.domain_cmds.proofs.comparison_text.push_each_pair.Given as goal

-- the pairs so far were added, and those that are left will be
abbrev pub invariant-loop-u : goal.invariant-loop-u
invariant-loop-u l =
    l.out.items ++ flat_map (λ pair. pair_text pair.0 pair.1) (drop l.u-index l.pairs) ≡ l.fn.out.items ++ flat_map (λ pair. pair_text pair.0 pair.1) l.pairs
