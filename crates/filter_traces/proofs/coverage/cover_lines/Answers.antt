-- The lines were counted and the commands told, or a fault cut one or the other.
use Rattle.filter_source.proofs.Refused.{of_error}
use Rattle.filter_reports.specs.Faults.{stream_fault}
use Rattle.filter_traces.proofs.CoverEndings.{diagnosis, told_off}
use Rattle.filter_traces.proofs.coverage.cover_lines.Goals as goal

pub returns-in_err-write_coverage-clause-broken_off : goal.returns-in_err-write_coverage-clause-broken_off
returns-in_err-write_coverage-clause-broken_off g c =
    let fault = c.in_err-write_coverage.field-0.0 in
    of_error c.from_residual-in_err-write_coverage.result _ fault c.from_residual-in_err-write_coverage.ensures.1
    (told_off c.args.counter.traced c.count_lines.new.self (stream_fault fault)
    (g.R.Read.remaining c.args.reader.now) (g.R.Read.remaining c.count_lines.new.reader)
    (g.W.Write.contents c.args.writer.now) (g.W.Write.contents c.count_lines.new.writer) (g.W.Write.contents c.write_coverage.new.writer)
    c.in_ok-refused.refused c.in_ok-refused.ensures.finished c.in_err-write_coverage.ensures.err)

pub returns-clause-finished : goal.returns-clause-finished
returns-clause-finished g c =
    diagnosis c.args.counter.traced c.count_lines.new.self
    (g.R.Read.remaining c.args.reader.now) (g.R.Read.remaining c.count_lines.new.reader)
    (g.W.Write.contents c.args.writer.now) (g.W.Write.contents c.count_lines.new.writer) (g.W.Write.contents c.write_coverage.new.writer)
    c.in_ok-refused.refused c.in_ok-refused.ensures.finished c.in_ok-write_coverage.ensures.ok
