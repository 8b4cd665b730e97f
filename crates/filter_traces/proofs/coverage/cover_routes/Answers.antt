-- Each exit follows from how the routes were counted.
use Rattle.std.proofs.lemmas.Result.{IfErr-weaker, IfOk-weaker}
use Rattle.filter_reports.specs.Faults.{stream_fault}
use Rattle.filter_traces.proofs.CoverEndings.{broken_off, covered}
use Rattle.filter_traces.proofs.Endings.{lacks_memory}
use Rattle.filter_traces.proofs.coverage.cover_routes.Goals as goal

pub returns-in-Ok-clause-finished : goal.returns-in-Ok-clause-finished
returns-in-Ok-clause-finished g c = λ size is.
    let t = c.in-Ok.ensures size is in
    IfOk-weaker c.cover_traced.result _ _
    (λ refused each. covered c.args.text.now size t.0 c.in-Ok.traced t.1
    (g.R.Read.remaining c.args.reader.now) (g.R.Read.remaining c.cover_traced.new.reader)
    (g.W.Write.contents c.args.writer.now) (g.W.Write.contents c.cover_traced.new.writer) refused each)
    c.cover_traced.ensures.finished

pub returns-in-Ok-clause-broken_off : goal.returns-in-Ok-clause-broken_off
returns-in-Ok-clause-broken_off g c = λ size is.
    let t = c.in-Ok.ensures size is in
    IfErr-weaker c.cover_traced.result _ _
    (λ fault first. broken_off c.args.text.now size t.0 c.in-Ok.traced t.1
    (g.R.Read.remaining c.args.reader.now) (g.R.Read.remaining c.cover_traced.new.reader)
    (g.W.Write.contents c.args.writer.now) (g.W.Write.contents c.cover_traced.new.writer) (stream_fault fault) first)
    c.cover_traced.ensures.broken_off

pub returns-in-Err-clause-broken_off : goal.returns-in-Err-clause-broken_off
returns-in-Err-clause-broken_off g c = λ size is. lacks_memory _ (g.R.Read.remaining c.args.reader.now) (g.W.Write.contents c.args.writer.now)
