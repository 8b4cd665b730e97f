use Rattle.std.proofs.Common.{◌≡◌}
use Rattle.domain_cmds.specs.Failures.{lists_below}
use Rattle.domain_cmds.specs.Said.{link_reports_of}
use Rattle.domain_cmds.proofs.said.link_reports.Given as goal

-- the links of lesser nodes than this
abbrev pub invariant-loop-u : goal.invariant-loop-u
invariant-loop-u l = l.links.items ≡ lists_below l.u (link_reports_of l.plan l.origins)
