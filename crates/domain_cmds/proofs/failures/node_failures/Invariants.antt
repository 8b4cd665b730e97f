use Rattle.std.proofs.Common.{◌≡◌, [], ◌∷◌}
use Rattle.domain_cmds.specs.Failures.{AddsFailures, lists_below}
use Rattle.domain_cmds.specs.declared.failure.Failing.TheVariants.{Node}
use Rattle.domain_cmds.proofs.failures.node_failures.Given as goal

-- those of lesser nodes than this were added to none, and the domain is as it was
abbrev pub invariant-loop-x : goal.invariant-loop-x
invariant-loop-x l = record {
  added : AddsFailures l.fn.domain l.before (lists_below l.x (λ x. Node x ∷ [])) [] l.found.items;
  same : l.domain ≡ l.fn.domain;
}
