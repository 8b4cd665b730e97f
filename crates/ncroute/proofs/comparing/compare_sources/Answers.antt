use Rattle.std.proofs.lemmas.Result.{IfErr-weaker, IfOk-weaker}
use Rattle.filter_reports.specs.Faults.{stream_fault}
use Rattle.filter_reports.specs.Reports.{report_of}
use Rattle.ncroute.specs.Comparing.{DiffsSources, StopsDiff}
use Rattle.ncroute.proofs.Reported.{was_cut, was_put}
use Rattle.ncroute.proofs.comparing.compare_sources.Goals as goal

pub returns-in-Ok-clause-finished : goal.returns-in-Ok-clause-finished
returns-in-Ok-clause-finished g c =
    let makes = DiffsSources (g.F.Folder.opens c.args.files.now) c.args.how c.args.old.now c.args.new.now in
    IfOk-weaker c.put.result _ _
    (λ status done. was_put makes (report_of c.in-Ok.report) _ _ _ _ status c.console.view_is c.in-Ok.ensures.made done.0 done.1)
    c.put.ensures.done

pub returns-in-Ok-clause-stopped : goal.returns-in-Ok-clause-stopped
returns-in-Ok-clause-stopped g c =
    let opens = g.F.Folder.opens c.args.files.now in
    let makes = DiffsSources opens c.args.how c.args.old.now c.args.new.now in
    IfErr-weaker c.put.result _ _
    (λ fault cut. was_cut makes (report_of c.in-Ok.report) _ _ _ _ (stream_fault fault)
    (StopsDiff opens (stream_fault fault) c.args.how c.args.old.now c.args.new.now) c.console.view_is c.in-Ok.ensures.made cut)
    c.put.ensures.cut
