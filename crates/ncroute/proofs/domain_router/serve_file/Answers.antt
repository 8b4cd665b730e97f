-- The file was read, and its node is served; or it is not there or wrong.
use Rattle.std.proofs.Common.{◌∙◌, ap, inl, inr, refl}
use Rattle.std.proofs.lemmas.Result.{IfErr-weaker, IfOk-weaker}
use Rattle.ncroute.specs.DomainRouter.{CutsFile, ServesFile}
use Rattle.program_console.specs.Streaming.{Streams}
use Rattle.ncroute.proofs.domain_router.serve_file.Goals as goal

pub returns-in-Ok-File-clause-served : goal.returns-in-Ok-File-clause-served
unfolding ServesFile
returns-in-Ok-File-clause-served g c =
    let loads = rw c.in-Ok-File.field-0-is at c.in-Ok-File.ensures.finished in
    IfOk-weaker c.serve_node.result _ _ (λ status does. inl (inl (c.in-Ok-File.file, c.load_domain.new.console, loads, does))) c.serve_node.ensures.served

pub returns-in-Ok-File-clause-unreported : goal.returns-in-Ok-File-clause-unreported
unfolding CutsFile
returns-in-Ok-File-clause-unreported g c =
    let loads = rw c.in-Ok-File.field-0-is at c.in-Ok-File.ensures.finished in
    IfErr-weaker c.serve_node.result _ _ (λ unreported does. inl (c.in-Ok-File.file, c.load_domain.new.console, loads, does)) c.serve_node.ensures.unreported

pub returns-in-Ok-Unread-clause-served : goal.returns-in-Ok-Unread-clause-served
unfolding ServesFile
returns-in-Ok-Unread-clause-served g c = inr (inl (rw c.in-Ok-Unread.field-0-is at c.in-Ok-Unread.ensures.finished, refl))

pub returns-in-Ok-Wrong-clause-served : goal.returns-in-Ok-Wrong-clause-served
unfolding ServesFile
returns-in-Ok-Wrong-clause-served g c = inr (inr (rw c.in-Ok-Wrong.field-0-is at c.in-Ok-Wrong.ensures.finished, refl))

pub returns-in-Err-clause-served : goal.returns-in-Err-clause-served
unfolding ServesFile
returns-in-Err-clause-served g c =
    let mid : Streams = record {
      reads = g.I.Read.remaining c.console.inside.reader;
      holds = g.W.Write.contents c.console.inside.writer;
      tells = g.E.Write.contents c.console.inside.errors;
    } in
    let unwritten = ap (λ (s : Streams). s.holds) c.console.view_is ∙ c.load_domain.ensures.unwritten in
    IfOk-weaker c.end_by_program.result _ _ (λ status told. inl (inr (c.in-Err.fault, mid, unwritten, (told.0, refl, refl, told.1)))) c.end_by_program.ensures.told

pub returns-in-Err-clause-unreported : goal.returns-in-Err-clause-unreported
unfolding CutsFile
returns-in-Err-clause-unreported g c =
    let mid : Streams = record {
      reads = g.I.Read.remaining c.console.inside.reader;
      holds = g.W.Write.contents c.console.inside.writer;
      tells = g.E.Write.contents c.console.inside.errors;
    } in
    let unwritten = ap (λ (s : Streams). s.holds) c.console.view_is ∙ c.load_domain.ensures.unwritten in
    IfErr-weaker c.end_by_program.result _ _ (λ unreported told. inr (c.in-Err.fault, mid, unwritten, (told.0, refl, refl, told.1))) c.end_by_program.ensures.cut
