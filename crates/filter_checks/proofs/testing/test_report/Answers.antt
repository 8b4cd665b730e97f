use Rattle.std.proofs.Common.{inl, inr}
use Rattle.std.proofs.lemmas.Result.{IfOk-weaker}
use Rattle.filter_reports.proofs.VerifiedFilters.{is_filter}
use Rattle.filter_checks.proofs.testing.test_report.Goals as goal

pub returns-in-Ok : goal.returns-in-Ok
returns-in-Ok c =
    let is = c.in-Ok.ensures.verified in
    IfOk-weaker c.run_tests.result _ _
    (λ made runs. inr (is.filter, is_filter c.args.file.now.size c.args.filter.now.text.now c.in-Ok.code is, runs)) c.run_tests.ensures
