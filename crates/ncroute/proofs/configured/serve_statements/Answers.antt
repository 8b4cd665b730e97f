use Rattle.std.proofs.Common.{inl, inr, refl}
use Rattle.std.proofs.lemmas.Result.{IfErr-weaker, IfOk-weaker}
use Rattle.ncroute.specs.Configured.{CutsStatements, ServesStatements}
use Rattle.ncroute.proofs.configured.serve_statements.Goals as goal

pub returns-in-Some-clause-served : goal.returns-in-Some-clause-served
unfolding ServesStatements
returns-in-Some-clause-served g c =
    rw (← c.console.view_is) (IfOk-weaker c.end_by_clash.result _ _
    (λ status told. inr (inl (c.in-Some.clash, c.in-Some.ensures, (told, refl, refl)))) c.end_by_clash.ensures.told)

pub returns-in-Some-clause-unreported : goal.returns-in-Some-clause-unreported
unfolding CutsStatements
returns-in-Some-clause-unreported g c =
    rw (← c.console.view_is) (IfErr-weaker c.end_by_clash.result _ _
    (λ unreported told. inr (inl (c.in-Some.clash, c.in-Some.ensures, (told, refl, refl)))) c.end_by_clash.ensures.cut)

pub returns-clause-served : goal.returns-clause-served
unfolding ServesStatements
returns-clause-served g c =
    IfOk-weaker c.serve_in_domain.result _ _
    (λ status does. inl (rw c.in_default.is at c.find_clash.ensures, (c.in-Ok.all, c.in-Ok.ensures, does))) c.serve_in_domain.ensures.served

pub returns-clause-unreported : goal.returns-clause-unreported
unfolding CutsStatements
returns-clause-unreported g c =
    IfErr-weaker c.serve_in_domain.result _ _
    (λ unreported does. inl (rw c.in_default.is at c.find_clash.ensures, (c.in-Ok.all, c.in-Ok.ensures, does))) c.serve_in_domain.ensures.unreported

pub returns-in-Err-clause-served : goal.returns-in-Err-clause-served
unfolding ServesStatements
returns-in-Err-clause-served g c =
    rw (← c.console.view_is) (IfOk-weaker c.end_by_memory.result _ _ (λ status told. inr (inr (told, refl, refl))) c.end_by_memory.ensures.told)

pub returns-in-Err-clause-unreported : goal.returns-in-Err-clause-unreported
unfolding CutsStatements
returns-in-Err-clause-unreported g c =
    rw (← c.console.view_is) (IfErr-weaker c.end_by_memory.result _ _ (λ unreported told. inr (inr (told, refl, refl))) c.end_by_memory.ensures.cut)
