use Rattle.std.proofs.Common.{◌≡◌, map, take}
use Rattle.domain_cmds.specs.Said.{harm_report}
use Rattle.domain_cmds.proofs.comparison_report.harm_reports.Given as goal

-- those so far
abbrev pub invariant-loop-harm : goal.invariant-loop-harm
invariant-loop-harm l = l.reports.items ≡ map harm_report (take l.harm-index l.harms)
