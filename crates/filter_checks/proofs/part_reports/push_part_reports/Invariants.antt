use Rattle.std.proofs.Common.{◌≡◌, ◌++◌, take}
use Rattle.std.specs.Prelude.{flat_map}
use Rattle.filter_checks.specs.PartReports.{part_report}
use Rattle.filter_checks.proofs.part_reports.push_part_reports.Given as goal

-- the reports so far
abbrev pub invariant-loop-part : goal.invariant-loop-part
invariant-loop-part l = l.out.items ≡ l.initial.out.items ++ flat_map part_report (take l.part-index l.parts)
