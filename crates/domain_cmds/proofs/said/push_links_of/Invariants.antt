use Rattle.std.proofs.Common.{◌≡◌, ◌++◌}
use Rattle.domain_cmds.specs.Failures.{lists_below}
use Rattle.domain_cmds.specs.Said.{link_report_at}
use Rattle.domain_cmds.proofs.said.push_links_of.Given as goal

-- the links to lesser nodes than this were added
abbrev pub invariant-loop-w : goal.invariant-loop-w
invariant-loop-w l = l.links.items ≡ l.fn.links.items ++ lists_below l.w (link_report_at l.plan l.origins l.u)
