use Rattle.std.proofs.Common.{inl, refl}
use Rattle.std.proofs.lemmas.Result.{IfErr-weaker, IfOk-weaker}
use Rattle.filter_reports.specs.Faults.{stream_fault}
use Rattle.filter_reports.specs.Reports.{report_of}
use Rattle.ncroute.specs.Replaying.{ReplaysSources, StopsSources}
use Rattle.ncroute.proofs.Reported.{was_cut, was_put}
use Rattle.ncroute.proofs.replaying.replay_sources.Goals as goal

pub returns-in-Ok-clause-finished : goal.returns-in-Ok-clause-finished
returns-in-Ok-clause-finished g c =
    let makes = ReplaysSources (g.F.Folder.opens c.args.files.now) c.args.sources.now in
    IfOk-weaker c.put.result _ _
    (λ status done. was_put makes (report_of c.in-Ok.report) _ _ _ _ status c.console.view_is c.in-Ok.ensures.made done.0 done.1)
    c.put.ensures.done

pub returns-in-Ok-clause-stopped : goal.returns-in-Ok-clause-stopped
returns-in-Ok-clause-stopped g c =
    let opens = g.F.Folder.opens c.args.files.now in
    IfErr-weaker c.put.result _ _
    (λ fault cut. was_cut (ReplaysSources opens c.args.sources.now) (report_of c.in-Ok.report) _ _ _ _ (stream_fault fault)
    (StopsSources opens (stream_fault fault) c.args.sources.now) c.console.view_is c.in-Ok.ensures.made cut)
    c.put.ensures.cut

pub returns-in-Err-clause-stopped : goal.returns-in-Err-clause-stopped
returns-in-Err-clause-stopped g c =
    rw (← c.console.view_is) (inl (record { stops = c.in-Err.ensures.stopped; holds = refl; tells = refl }))
