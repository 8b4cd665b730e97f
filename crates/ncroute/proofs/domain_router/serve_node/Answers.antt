-- What the file and the words say together to the node is done.
use Rattle.std.proofs.Common.{inl, inr, refl}
use Rattle.std.proofs.lemmas.Result.{IfErr-weaker, IfOk-weaker}
use Rattle.filter_reports.specs.declared.fault.ProgramFault.TheVariants.{Stream}
use Rattle.line_protocol.specs.declared.faults.StreamFault.TheVariants.{Memory}
use Rattle.ncroute.specs.DomainRouter.{DoesNode}
use Rattle.ncroute.proofs.domain_router.serve_node.Goals as goal

pub returns-in-Ok-clause-served : goal.returns-in-Ok-clause-served
unfolding DoesNode
returns-in-Ok-clause-served g c =
    IfOk-weaker c.serve_said.result _ _ (λ status does. inl (c.in-Ok.node, c.in-Ok.all, c.in-Ok.ensures.0, c.in-Ok.ensures.1, does)) c.serve_said.ensures.served

pub returns-in-Ok-clause-unreported : goal.returns-in-Ok-clause-unreported
unfolding DoesNode
returns-in-Ok-clause-unreported g c =
    IfErr-weaker c.serve_said.result _ _ (λ unreported does. inl (c.in-Ok.node, c.in-Ok.all, c.in-Ok.ensures.0, c.in-Ok.ensures.1, does)) c.serve_said.ensures.unreported

pub returns-in-Err-clause-served : goal.returns-in-Err-clause-served
unfolding DoesNode
returns-in-Err-clause-served g c =
    rw (← c.console.view_is) (IfOk-weaker c.end_by_program.result _ _
    (λ status told. inr (Stream Memory, (told.0, refl, refl, told.1))) c.end_by_program.ensures.told)

pub returns-in-Err-clause-unreported : goal.returns-in-Err-clause-unreported
unfolding DoesNode
returns-in-Err-clause-unreported g c =
    rw (← c.console.view_is) (IfErr-weaker c.end_by_program.result _ _
    (λ unreported told. inr (Stream Memory, (told.0, refl, refl, told.1))) c.end_by_program.ensures.cut)
