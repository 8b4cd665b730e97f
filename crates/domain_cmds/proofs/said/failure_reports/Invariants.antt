use Rattle.std.proofs.Common.{◌≡◌, map, take}
use Rattle.domain_cmds.specs.Said.{failure_report}
use Rattle.domain_cmds.proofs.said.failure_reports.Given as goal

-- the failures so far
abbrev pub invariant-loop-failure : goal.invariant-loop-failure
invariant-loop-failure l = l.reports.items ≡ map failure_report (take l.failure-index l.failures)
