use Rattle.std.proofs.Common.{inl, inr}
use Rattle.std.proofs.lemmas.Result.{IfOk-weaker}
use Rattle.filter_lint.proofs.checking.check_report.Goals as goal

pub verified_report-requires : goal.verified_report-requires
verified_report-requires c = rw c.in-Ok.is at c.in_ok-lines.ensures.verified

pub returns-in-Ok : goal.returns-in-Ok
returns-in-Ok c =
    IfOk-weaker c.verified_report.result _ _
    (λ report said. inr (c.in_ok-lines.field-0.lines.items, rw c.in-Ok.is at c.in_ok-lines.ensures.lines, said))
    c.verified_report.ensures

pub returns-in-Err : goal.returns-in-Err
returns-in-Err c =
    IfOk-weaker c.plain_report.result _ _
    (λ report said. inl (
      c.in-Err.why,
      c.in_ok-lines.field-0.lines.items,
      rw c.in-Err.is at c.in_ok-lines.ensures.lines,
      rw c.in-Err.is at c.in_ok-lines.ensures.ends,
      rw c.in-Err.is at c.in_ok-lines.ensures.diagnosed,
      said,
    ))
    c.plain_report.ensures
