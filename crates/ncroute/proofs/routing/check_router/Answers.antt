use Rattle.std.proofs.Common.{inl, inr, refl}
use Rattle.std.proofs.lemmas.Result.{IfErr-weaker, IfOk-weaker}
use Rattle.ncroute.specs.Checked.{ChecksRouter, CutsCheck}
use Rattle.ncroute.proofs.routing.check_router.Goals as goal

pub returns-in-Ok-true-clause-checked : goal.returns-in-Ok-true-clause-checked
unfolding ChecksRouter
returns-in-Ok-true-clause-checked g c = inl (rw c.in-Ok-true.field-0-test at c.in-Ok-true.ensures.finished, refl)

pub returns-in-Ok-false-clause-checked : goal.returns-in-Ok-false-clause-checked
unfolding ChecksRouter
returns-in-Ok-false-clause-checked g c = inr (inl (rw c.in-Ok-false.field-0-test at c.in-Ok-false.ensures.finished, refl))

pub returns-in-Err-clause-checked : goal.returns-in-Err-clause-checked
unfolding ChecksRouter
returns-in-Err-clause-checked g c =
    IfOk-weaker c.end_unset.result _ _
    (λ status told. inr (inr (c.in-Err.fault, _, rw (← c.console.view_is) at c.in-Err.ensures.stopped, told.1, refl, refl, told.0)))
    c.end_unset.ensures.told

pub returns-in-Err-clause-unreported : goal.returns-in-Err-clause-unreported
unfolding CutsCheck
returns-in-Err-clause-unreported g c =
    IfErr-weaker c.end_unset.result _ _
    (λ unreported told. (c.in-Err.fault, _, rw (← c.console.view_is) at c.in-Err.ensures.stopped, told.1, refl, refl, told.0))
    c.end_unset.ensures.cut
