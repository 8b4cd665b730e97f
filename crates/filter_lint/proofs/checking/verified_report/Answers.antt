use Rattle.std.proofs.Common.{ap, ◌∙◌}
use Rattle.std.proofs.lemmas.Result.{IfOk-weaker}
use Rattle.filter_reports.specs.Reports.{followed_by, report_of}
use Rattle.filter_lint.proofs.checking.verified_report.Goals as goal

pub returns : goal.returns
returns c =
    IfOk-weaker c.followed_by.result _ _
    (λ report both. record {
      plain = report_of c.in_ok-plain.plain;
      is_plain = c.in_ok-plain.ensures;
      warnings = c.in_ok-warnings.warnings.items;
      are_warnings = c.in_ok-warnings.ensures;
      both = both ∙ ap (followed_by (report_of c.in_ok-plain.plain)) c.warning_report.ensures;
    })
    c.followed_by.ensures
