-- The code answers as the text means, whoever watches.
use Rattle.std.proofs.lemmas.Result.{IfErr-weaker, IfOk-weaker}
use Rattle.filter_reports.specs.Faults.{stream_fault}
use Rattle.route_answers.proofs.FilterEndings.{answered, broken_off}
use Rattle.route_answers.proofs.watched_routes.filter_routes.Goals as goal

pub returns-then-routes-clause-finished : goal.returns-then-routes-clause-finished
returns-then-routes-clause-finished g c = λ size text is.
    IfOk-weaker c.answer_routes.result _ _
    (λ refused each. answered text size c.args.verified is (g.R.Read.remaining c.args.reader.now) (g.R.Read.remaining c.answer_routes.new.reader)
    (g.W.Write.contents c.args.writer.now) (g.W.Write.contents c.answer_routes.new.writer) refused each)
    c.answer_routes.ensures.finished

pub returns-then-routes-clause-broken_off : goal.returns-then-routes-clause-broken_off
returns-then-routes-clause-broken_off g c = λ size text is.
    IfErr-weaker c.answer_routes.result _ _
    (λ fault first. broken_off text size c.args.verified is (g.R.Read.remaining c.args.reader.now) (g.R.Read.remaining c.answer_routes.new.reader)
    (g.W.Write.contents c.args.writer.now) (g.W.Write.contents c.answer_routes.new.writer) (stream_fault fault) first)
    c.answer_routes.ensures.broken_off

pub returns-else-routes-clause-finished : goal.returns-else-routes-clause-finished
returns-else-routes-clause-finished g c = λ size text is.
    IfOk-weaker c.answer_routes-else-routes.result _ _
    (λ refused each. answered text size c.args.verified is (g.R.Read.remaining c.args.reader.now) (g.R.Read.remaining c.answer_routes-else-routes.new.reader)
    (g.W.Write.contents c.args.writer.now) (g.W.Write.contents c.answer_routes-else-routes.new.writer) refused each)
    c.answer_routes-else-routes.ensures.finished

pub returns-else-routes-clause-broken_off : goal.returns-else-routes-clause-broken_off
returns-else-routes-clause-broken_off g c = λ size text is.
    IfErr-weaker c.answer_routes-else-routes.result _ _
    (λ fault first. broken_off text size c.args.verified is (g.R.Read.remaining c.args.reader.now) (g.R.Read.remaining c.answer_routes-else-routes.new.reader)
    (g.W.Write.contents c.args.writer.now) (g.W.Write.contents c.answer_routes-else-routes.new.writer) (stream_fault fault) first)
    c.answer_routes-else-routes.ensures.broken_off
