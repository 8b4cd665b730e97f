-- Each report follows from how the texts were judged.
use Rattle.std.proofs.Common.{None, Some, inl}
use Rattle.std.proofs.lemmas.Result.{IfOk-weaker}
use Rattle.filter_reports.specs.Notices.{named}
use Rattle.filter_reports.specs.Reports.{report_of}
use Rattle.filter_checks.proofs.Comparisons.{both_compared, first_refused, second_refused}
use Rattle.filter_checks.proofs.comparing.diff_report.Goals as goal

pub returns-in-Ok-after : goal.returns-in-Ok-after
returns-in-Ok-after c =
    IfOk-weaker c.comparison_report.result _ _
    (λ report said. both_compared c.args.how (named c.args.old.now) (named c.args.new.now) c.in-Ok.old_code c.in-Ok-after.new_code (report_of report)
    (rw c.in-Ok.is at c.in_ok-before.ensures) (rw c.in-Ok-after.is at c.in_ok-after.ensures) said)
    c.comparison_report.ensures

pub returns-in-Ok : goal.returns-in-Ok
returns-in-Ok c =
    IfOk-weaker c.refusals_report.result _ _
    (λ report said. inl (
      None,
      Some c.in-Err-after.diagnosis,
      second_refused c.args.how.size (named c.args.old.now) (named c.args.new.now) c.in-Ok.old_code c.in-Err-after.diagnosis
          (rw c.in-Ok.is at c.in_ok-before.ensures) (rw c.in-Err-after.is at c.in_ok-after.ensures),
      said,
    ))
    c.refusals_report.ensures

pub returns : goal.returns
returns c =
    IfOk-weaker c.refusals_report-in-Err.result _ _
    (λ report said. inl (
      Some c.in-Err.diagnosis,
      c.err.result,
      first_refused c.args.how.size (named c.args.old.now) (named c.args.new.now) c.in-Err.diagnosis c.in_ok-after.after c.err.result c.err.ensures.value
          (rw c.in-Err.is at c.in_ok-before.ensures) c.in_ok-after.ensures,
      said,
    ))
    c.refusals_report-in-Err.ensures
