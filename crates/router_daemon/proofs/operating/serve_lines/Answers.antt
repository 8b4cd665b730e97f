use Rattle.router_daemon.proofs.Running.{has_operator}
use Rattle.router_daemon.proofs.operating.serve_lines.Goals as goal

pub returns : goal.returns
returns g c =
    has_operator g.J.Naming.router c.args.router_pass c.pass-pass.result c.args.filters.entries c.args.shared.now.nodes.items c.serve_operator.result.answered
    (g.I.Read.remaining c.args.reader.now) (g.I.Read.remaining c.serve_operator.new.reader) (g.W.Write.contents c.args.writer.now)
    (g.W.Write.contents c.serve_operator.new.writer) c.serve_operator.result.router_pass.pass c.pass-pass.ensures.same c.requires.no_calls
    c.pass-pass.ensures.legal c.serve_operator.ensures
