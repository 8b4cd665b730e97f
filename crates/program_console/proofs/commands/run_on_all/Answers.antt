use Rattle.filter_source.proofs.Refused.{of_error}
use Rattle.filter_reports.specs.Faults.{stream_fault}
use Rattle.program_console.proofs.Following.{none_done, one_more, some_done}
use Rattle.program_console.specs.Commands.{CutsOn, RunsNext}
use Rattle.program_console.proofs.commands.run_on_all.Goals as goal

pub loop-source-init : goal.loop-source-init
loop-source-init g c =
    none_done 0 (RunsNext (g.F.Folder.opens c.args.files.now) (g.C.TextCommand.reports c.args.command.now) c.args.unread) c.args.sources.now _

pub returns-in_err-one-clause-stopped : goal.returns-in_err-one-clause-stopped
returns-in_err-one-clause-stopped g c =
    let fault = c.in_err-one.field-0.0 in
    let opens = g.F.Folder.opens c.args.files.now in
    let reports = g.C.TextCommand.reports c.args.command.now in
    of_error c.from_residual.result _ fault c.from_residual.ensures.1
    (some_done 0 (RunsNext opens reports c.args.unread) (λ earlier. CutsOn opens reports c.args.unread (stream_fault fault)) c.args.sources.now
    c.loop-source.source-index c.source-item.result _ _ _ c.loop-source.status c.loop-source-test.true c.source-item.is c.loop-source.invariant
    c.in_err-one.ensures.stopped)

pub loop-source-preserved : goal.loop-source-preserved
loop-source-preserved g c =
    one_more 0 (RunsNext (g.F.Folder.opens c.args.files.now) (g.C.TextCommand.reports c.args.command.now) c.args.unread) c.args.sources.now
    c.loop-source.source-index c.source-item.result _ _ _ c.loop-source.status c.worst_status-status.result c.loop-source-test.true c.source-item.is
    c.loop-source.invariant (c.in_ok-one.one, c.in_ok-one.ensures.finished, c.worst_status-status.ensures)
