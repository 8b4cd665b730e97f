use Rattle.std.proofs.Common.{map, take}
use Rattle.std.specs.List.{AllZip}
use Rattle.domain_reports.specs.Views.{filter_view}
use Rattle.domain_routes.specs.PlanView.{opening_of}
use Rattle.domain_cmds.specs.Said.{IsFilterReport}
use Rattle.domain_cmds.proofs.said.filter_reports.Given as goal

-- those of the filters so far
abbrev pub invariant-loop-origin : goal.invariant-loop-origin
invariant-loop-origin l = AllZip (IsFilterReport (opening_of l.plan)) (take l.origin-index l.origins.all) (map filter_view l.reports.items)
