use Rattle.std.proofs.Common.{◌≡◌}
use Rattle.domain_cmds.specs.Comparing.{AddsHarms, links_of_either}
use Rattle.domain_cmds.specs.Failures.{lists_below}
use Rattle.domain_cmds.proofs.comparing.push_link_harms.Given as goal

-- those of the links of lesser nodes than this were added, and both domains are as they were
abbrev pub invariant-loop-u : goal.invariant-loop-u
invariant-loop-u l = record {
  added : AddsHarms l.fn.old l.fn.new l.before l.after (lists_below l.u (links_of_either l.fn.old l.fn.new)) l.fn.found.items l.found.items;
  old : l.old ≡ l.fn.old;
  new : l.new ≡ l.fn.new;
}
