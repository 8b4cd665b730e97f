-- Nothing is said beside the file that it says, and the node is.
use Rattle.std.proofs.Common.{inl, inr, refl}
use Rattle.std.proofs.lemmas.Result.{IfErr-weaker, IfOk-weaker}
use Rattle.ncroute.specs.DomainRouter.{CutsBeside, DoesBeside, ServesBeside}
use Rattle.ncroute.proofs.domain_router.serve_beside.Goals as goal

pub returns-clause-served : goal.returns-clause-served
unfolding ServesBeside DoesBeside
returns-clause-served g c =
    IfOk-weaker c.serve_file.result _ _ (λ status does. inl (c.in-Ok.me, c.in-Ok.ensures.node.0, c.in-Ok.ensures.node.1, does)) c.serve_file.ensures.served

pub returns-clause-unreported : goal.returns-clause-unreported
unfolding CutsBeside DoesBeside
returns-clause-unreported g c =
    IfErr-weaker c.serve_file.result _ _ (λ unreported does. inl (c.in-Ok.me, c.in-Ok.ensures.node.0, c.in-Ok.ensures.node.1, does)) c.serve_file.ensures.unreported

pub returns-in-Err-clause-served : goal.returns-in-Err-clause-served
unfolding ServesBeside DoesBeside
returns-in-Err-clause-served g c =
    rw (← c.console.view_is) (IfOk-weaker c.end_by_beside.result _ _
    (λ status told. inr (c.in-Err.fault, c.in-Err.ensures.fault, (told.1, refl, refl, told.0))) c.end_by_beside.ensures.told)

pub returns-in-Err-clause-unreported : goal.returns-in-Err-clause-unreported
unfolding CutsBeside DoesBeside
returns-in-Err-clause-unreported g c =
    rw (← c.console.view_is) (IfErr-weaker c.end_by_beside.result _ _
    (λ unreported told. inr (c.in-Err.fault, c.in-Err.ensures.fault, (told.1, refl, refl, told.0))) c.end_by_beside.ensures.cut)
