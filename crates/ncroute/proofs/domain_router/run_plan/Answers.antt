-- The router is run by the plan with the mark of the file, and with its filters.
use Rattle.std.proofs.Common.{inl, inr, refl}
use Rattle.std.proofs.lemmas.Result.{IfErr-weaker, IfOk-weaker}
use Rattle.filter_reports.specs.declared.fault.ProgramFault.TheVariants.{Stream}
use Rattle.line_protocol.specs.declared.faults.StreamFault.TheVariants.{Memory}
use Rattle.ncroute.specs.DomainRouter.{CutsPlan, RunsPlan}
use Rattle.ncroute.proofs.domain_router.run_plan.Goals as goal

pub returns-in_default-clause-served : goal.returns-in_default-clause-served
unfolding RunsPlan
returns-in_default-clause-served g c =
    rw (← c.console.view_is) (IfOk-weaker c.end_by_program.result _ _
    (λ status told. inr (inr (Stream Memory, (told.0, refl, refl, told.1)))) c.end_by_program.ensures.told)

pub returns-in_default-clause-unreported : goal.returns-in_default-clause-unreported
unfolding CutsPlan
returns-in_default-clause-unreported g c =
    rw (← c.console.view_is) (IfErr-weaker c.end_by_program.result _ _
    (λ unreported told. inr (Stream Memory, (told.0, refl, refl, told.1))) c.end_by_program.ensures.cut)

pub returns-then-words-clause-served : goal.returns-then-words-clause-served
unfolding RunsPlan
returns-then-words-clause-served g c = inl (c.if-words.true, refl, refl)

pub returns-clause-served : goal.returns-clause-served
unfolding RunsPlan
returns-clause-served g c =
    let ran = rw (c.into_filters-filters.ensures, c.in-Ok.ensures) at c.run_marked.ensures.served in
    IfOk-weaker c.run_marked.result _ _ (λ status it. inr (inl (c.if-words.false, it))) ran

pub returns-clause-unreported : goal.returns-clause-unreported
unfolding CutsPlan
returns-clause-unreported g c =
    let cuts = rw (c.into_filters-filters.ensures, c.in-Ok.ensures) at c.run_marked.ensures.unreported in
    IfErr-weaker c.run_marked.result _ _ (λ unreported it. inl (c.if-words.false, it)) cuts
