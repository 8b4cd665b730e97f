-- The lines were counted, or nothing was for want of memory.
use Rattle.std.proofs.Common.{inr, subst}
use Rattle.std.proofs.lemmas.Result.{IfErr-weaker, IfOk-weaker}
use Rattle.route_answers.proofs.EvalEndings.{if_known}
use Rattle.filter_reports.specs.Faults.{stream_fault}
use Rattle.filter_traces.proofs.Endings.{lacks_memory}
use Rattle.filter_traces.specs.Coverage.{CoversEach, CoversFirst}
use Rattle.filter_traces.specs.TracedView.{TracedView}
use Rattle.filter_traces.proofs.coverage.cover_traced.Goals as goal

pub returns-in-Ok-clause-finished : goal.returns-in-Ok-clause-finished
returns-in-Ok-clause-finished g c =
    IfOk-weaker c.cover_lines.result _ _
    (λ refused each. if_known (g.R.Read.remaining c.args.reader.now)
    (λ input f. subst (λ (t : TracedView). CoversEach t input (g.R.Read.remaining c.cover_lines.new.reader)
    (g.W.Write.contents c.args.writer.now) (g.W.Write.contents c.cover_lines.new.writer) refused) c.in-Ok.ensures.same f) each)
    c.cover_lines.ensures.finished

pub returns-in-Ok-clause-broken_off : goal.returns-in-Ok-clause-broken_off
returns-in-Ok-clause-broken_off g c =
    IfErr-weaker c.cover_lines.result _ _
    (λ fault first. if_known (g.R.Read.remaining c.args.reader.now)
    (λ input f. subst (λ (t : TracedView). CoversFirst t (stream_fault fault) input (g.R.Read.remaining c.cover_lines.new.reader)
    (g.W.Write.contents c.args.writer.now) (g.W.Write.contents c.cover_lines.new.writer)) c.in-Ok.ensures.same (inr f)) first)
    c.cover_lines.ensures.broken_off

pub returns-in-Err-clause-broken_off : goal.returns-in-Err-clause-broken_off
returns-in-Err-clause-broken_off g c = lacks_memory _ (g.R.Read.remaining c.args.reader.now) (g.W.Write.contents c.args.writer.now)
