use Rattle.filter_source.proofs.Refused.{of_error}
use Rattle.filter_reports.specs.Faults.{stream_fault}
use Rattle.program_console.proofs.Following.{none_done, one_more, some_done}
use Rattle.ncroute.specs.Testing.{StopsNext, TestsNext, none_run}
use Rattle.ncroute.proofs.testing.test_all.Goals as goal

pub loop-source-init : goal.loop-source-init
loop-source-init g c = none_done none_run (TestsNext (g.F.Folder.opens c.args.files.now) c.args.how) c.args.sources.now _

pub returns-in_err-now-clause-stopped : goal.returns-in_err-now-clause-stopped
returns-in_err-now-clause-stopped g c =
    let fault = c.in_err-now.field-0.0 in
    let opens = g.F.Folder.opens c.args.files.now in
    of_error c.from_residual.result _ fault c.from_residual.ensures.1
    (some_done none_run (TestsNext opens c.args.how) (StopsNext opens (stream_fault fault) c.args.how) c.args.sources.now
    c.loop-source.source-index c.source-item.result _ _ _ c.loop-source.tally c.loop-source-test.true c.source-item.is c.loop-source.invariant
    c.in_err-now.ensures.stopped)

pub loop-source-preserved : goal.loop-source-preserved
loop-source-preserved g c =
    one_more none_run (TestsNext (g.F.Folder.opens c.args.files.now) c.args.how) c.args.sources.now c.loop-source.source-index c.source-item.result
    _ _ _ c.loop-source.tally c.in_ok-now.now c.loop-source-test.true c.source-item.is c.loop-source.invariant c.in_ok-now.ensures.finished
