use Rattle.std.proofs.Common.{◌≡◌}
use Rattle.domain_cmds.specs.Failures.{AddsFailures, link_at, lists_below}
use Rattle.domain_cmds.proofs.failures.push_links_of.Given as goal

-- those of the links to lesser nodes than this were added, and the domain is as it was
abbrev pub invariant-loop-w : goal.invariant-loop-w
invariant-loop-w l = record {
  added : AddsFailures l.fn.domain l.before (lists_below l.w (link_at l.fn.domain l.u)) l.fn.found.items l.found.items;
  same : l.domain ≡ l.fn.domain;
}
