-- The links of the plan are those of the node, or one is too many or missing.
use Rattle.std.proofs.Common.{◌∙◌, inl, inr, refl, sym}
use Rattle.std.proofs.lemmas.Result.{IfErr-weaker, IfOk-weaker}
use Rattle.ncroute.specs.DomainRouter.{DoesPlan}
use Rattle.ncroute.proofs.domain_router.serve_plan.Goals as goal

pub returns-in-Some-clause-served : goal.returns-in-Some-clause-served
unfolding DoesPlan
returns-in-Some-clause-served g c =
    rw (← c.console.view_is) (IfOk-weaker c.end_by_domain.result _ _
    (λ status told. inr (c.in-Some.fault, sym c.in-Some.ensures, (told.1, refl, refl, told.0))) c.end_by_domain.ensures.told)

pub returns-in-Some-clause-unreported : goal.returns-in-Some-clause-unreported
unfolding DoesPlan
returns-in-Some-clause-unreported g c =
    rw (← c.console.view_is) (IfErr-weaker c.end_by_domain.result _ _
    (λ unreported told. inr (c.in-Some.fault, sym c.in-Some.ensures, (told.1, refl, refl, told.0))) c.end_by_domain.ensures.cut)

pub returns-clause-served : goal.returns-clause-served
unfolding DoesPlan
returns-clause-served g c =
    IfOk-weaker c.run_plan.result _ _ (λ status ran. inl (sym c.unfit_in.ensures ∙ c.in_default.is, ran)) c.run_plan.ensures.served

pub returns-clause-unreported : goal.returns-clause-unreported
unfolding DoesPlan
returns-clause-unreported g c =
    IfErr-weaker c.run_plan.result _ _ (λ unreported cuts. inl (sym c.unfit_in.ensures ∙ c.in_default.is, cuts)) c.run_plan.ensures.unreported
