use Rattle.std.proofs.Common.{ℕ, List, Option, refl}
use Rattle.filter_reports.specs.Faults.{stream_fault}
use Rattle.filter_reports.specs.Reports.{ReportView, report_of}
use Rattle.ncroute.specs.Testing.{StopsSource, TestsSource}
use Rattle.ncroute.proofs.Reported.{was_cut, was_put}
use Rattle.ncroute.proofs.testing.test_next.Goals as goal

pub returns-in-Ok-put-clause-finished : goal.returns-in-Ok-put-clause-finished
returns-in-Ok-put-clause-finished g c =
    let count = c.in-Ok.made.count in
    let done = c.in-Ok-put.ensures.done in
    record {
      count = count;
      status = c.in-Ok-put.status;
      puts = was_put (λ report. TestsSource (g.F.Folder.opens c.args.files.now) c.args.how c.args.earlier.count c.args.source.now report count)
          (report_of c.in-Ok.made.report) _ _ _ _ c.in-Ok-put.status c.console.view_is c.in-Ok.ensures.made done.0 done.1;
      counted = rw c.worst_status.ensures refl;
    }

pub returns-in-Ok-clause-stopped : goal.returns-in-Ok-clause-stopped
returns-in-Ok-clause-stopped g c =
    let opens = g.F.Folder.opens c.args.files.now in
    let fault = stream_fault c.in-Err-put.fault in
    was_cut (λ report known left. (count : ℕ) × TestsSource opens c.args.how c.args.earlier.count c.args.source.now report count known left)
    (report_of c.in-Ok.made.report) _ _ _ _ fault (StopsSource opens fault c.args.earlier.count c.args.source.now) c.console.view_is
    (c.in-Ok.made.count, c.in-Ok.ensures.made) c.in-Err-put.ensures.cut
