-- All that is said is a plan, or it is none.
use Rattle.std.proofs.Common.{inl, inr, refl}
use Rattle.std.proofs.lemmas.Result.{IfErr-weaker, IfOk-weaker}
use Rattle.ncroute.specs.DomainRouter.{DoesSaid}
use Rattle.ncroute.proofs.domain_router.serve_said.Goals as goal

pub returns-in-Ok-clause-served : goal.returns-in-Ok-clause-served
unfolding DoesSaid
returns-in-Ok-clause-served g c =
    IfOk-weaker c.serve_plan.result _ _ (λ status does. inl (c.in-Ok.plan, c.in-Ok.ensures.made, does)) c.serve_plan.ensures.served

pub returns-in-Ok-clause-unreported : goal.returns-in-Ok-clause-unreported
unfolding DoesSaid
returns-in-Ok-clause-unreported g c =
    IfErr-weaker c.serve_plan.result _ _ (λ unreported does. inl (c.in-Ok.plan, c.in-Ok.ensures.made, does)) c.serve_plan.ensures.unreported

pub returns-in-Err-clause-served : goal.returns-in-Err-clause-served
unfolding DoesSaid
returns-in-Err-clause-served g c =
    rw (← c.console.view_is) (IfOk-weaker c.end_by_plan.result _ _
    (λ status told. inr (c.in-Err.fault, c.in-Err.ensures.refused, told, refl, refl)) c.end_by_plan.ensures.told)

pub returns-in-Err-clause-unreported : goal.returns-in-Err-clause-unreported
unfolding DoesSaid
returns-in-Err-clause-unreported g c =
    rw (← c.console.view_is) (IfErr-weaker c.end_by_plan.result _ _
    (λ unreported told. inr (c.in-Err.fault, c.in-Err.ensures.refused, told, refl, refl)) c.end_by_plan.ensures.cut)
