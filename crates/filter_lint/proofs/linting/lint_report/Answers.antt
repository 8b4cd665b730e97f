use Rattle.std.proofs.Common.{inr}
use Rattle.std.proofs.lemmas.Result.{IfOk-weaker}
use Rattle.filter_lint.proofs.linting.lint_report.Goals as goal

pub lint_verified-requires : goal.lint_verified-requires
lint_verified-requires c = rw c.in-Ok.is at c.in_ok-verdict.ensures.verified

pub returns-in-Ok : goal.returns-in-Ok
returns-in-Ok c = IfOk-weaker c.lint_verified.result _ _ (λ report said. inr said) c.lint_verified.ensures
