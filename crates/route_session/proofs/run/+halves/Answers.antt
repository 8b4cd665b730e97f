use Rattle.std.proofs.Common.{arith}
use Rattle.route_session.proofs.Halves.{halves}
use Rattle.route_session.proofs.run.+halves.Goals as goal

pub returns : goal.returns
returns g t c = halves {L = g.row.L.Denot} g.L.Link.trace (g.G.Gate.may_answer c.args.gate.now) c.args.turns c.args.router.now c.args.first _ c.args.jobs.items
    c.split_off.new.self.items c.in_ok-high.high.items
    c.in_ok-all.all.items c.in_ok-all.rest.items c.append.new.self.items _
    c.in_ok-high.ensures.items c.in_ok-high.ensures.tail c.in_ok-append.ensures.items (omega arith) (omega arith) c.in_ok-all.ensures.1.0 c.in_ok-all.ensures.1.1
