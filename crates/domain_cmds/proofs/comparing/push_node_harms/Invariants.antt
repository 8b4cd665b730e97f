use Rattle.std.proofs.Common.{◌≡◌, [], ◌∷◌}
use Rattle.domain_cmds.specs.Comparing.{AddsHarms}
use Rattle.domain_cmds.specs.Failures.{lists_below}
use Rattle.domain_cmds.specs.declared.failure.Failing.TheVariants.{Node}
use Rattle.domain_cmds.proofs.comparing.push_node_harms.Given as goal

-- those of lesser nodes than this were added, and both domains are as they were
abbrev pub invariant-loop-x : goal.invariant-loop-x
invariant-loop-x l = record {
  added : AddsHarms l.fn.old l.fn.new l.before l.after (lists_below l.x (λ x. Node x ∷ [])) l.fn.found.items l.found.items;
  old : l.old ≡ l.fn.old;
  new : l.new ≡ l.fn.new;
}
