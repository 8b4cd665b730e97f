-- The folder was made, and then the router was run; or there is none.
use Rattle.std.proofs.Common.{inl, inr, refl}
use Rattle.std.proofs.lemmas.Result.{IfErr-weaker, IfOk-weaker}
use Rattle.std.specs.Option.{option_map}
use Rattle.ncroute.specs.DomainRouter.{CutsMarked, RunsMarked}
use Rattle.program_console.specs.Streaming.{Streams}
use Rattle.ncroute.proofs.domain_router.run_marked.Goals as goal

pub returns-in-Ok-Some-clause-served : goal.returns-in-Ok-Some-clause-served
unfolding RunsMarked
returns-in-Ok-Some-clause-served g c =
    let kept = option_map (λ segments. g.R.Segments.SegmentFolder.holds segments) c.in-Ok-Some.save in
    let makes = rw c.in-Ok-Some.field-0-is at c.in-Ok-Some.ensures.finished in
    IfOk-weaker c.run_setting.result _ _ (λ status ran. inl (inl (kept, c.make_folder.new.console, makes, ran))) c.run_setting.ensures.finished

pub returns-in-Ok-Some-clause-unreported : goal.returns-in-Ok-Some-clause-unreported
unfolding CutsMarked
returns-in-Ok-Some-clause-unreported g c =
    let kept = option_map (λ segments. g.R.Segments.SegmentFolder.holds segments) c.in-Ok-Some.save in
    let makes = rw c.in-Ok-Some.field-0-is at c.in-Ok-Some.ensures.finished in
    IfErr-weaker c.run_setting.result _ _ (λ unreported cuts. inl (kept, c.make_folder.new.console, makes, cuts)) c.run_setting.ensures.unreported

pub returns-in-Ok-None-clause-served : goal.returns-in-Ok-None-clause-served
unfolding RunsMarked
returns-in-Ok-None-clause-served g c = inr (rw c.in-Ok-None.field-0-is at c.in-Ok-None.ensures.finished, refl)

pub returns-in-Err-clause-served : goal.returns-in-Err-clause-served
unfolding RunsMarked
returns-in-Err-clause-served g c =
    let mid : Streams = record {
      reads = g.I.Read.remaining c.console.inside.reader;
      holds = g.W.Write.contents c.console.inside.writer;
      tells = g.E.Write.contents c.console.inside.errors;
    } in
    let stopped = rw (← c.console.view_is) at c.in-Err.ensures.stopped in
    IfOk-weaker c.end_by_program.result _ _ (λ status told. inl (inr (c.in-Err.fault, mid, stopped, (told.0, refl, refl, told.1)))) c.end_by_program.ensures.told

pub returns-in-Err-clause-unreported : goal.returns-in-Err-clause-unreported
unfolding CutsMarked
returns-in-Err-clause-unreported g c =
    let mid : Streams = record {
      reads = g.I.Read.remaining c.console.inside.reader;
      holds = g.W.Write.contents c.console.inside.writer;
      tells = g.E.Write.contents c.console.inside.errors;
    } in
    let stopped = rw (← c.console.view_is) at c.in-Err.ensures.stopped in
    IfErr-weaker c.end_by_program.result _ _ (λ unreported told. inr (c.in-Err.fault, mid, stopped, (told.0, refl, refl, told.1))) c.end_by_program.ensures.cut
