use Rattle.std.proofs.Common.{◌≡◌, []}
use Rattle.domain_cmds.specs.Failures.{AddsFailures, links_of, lists_below}
use Rattle.domain_cmds.proofs.failures.link_failures.Given as goal

-- those of the links of lesser nodes than this were added to none, and the domain is as it was
abbrev pub invariant-loop-u : goal.invariant-loop-u
invariant-loop-u l = record {
  added : AddsFailures l.fn.domain l.before (lists_below l.u (links_of l.fn.domain)) [] l.found.items;
  same : l.domain ≡ l.fn.domain;
}
