-- A next hop is a node.
use Rattle.std.proofs.Common.{arith}
use Rattle.domain_routes.proofs.Left.{hop_read}
use Rattle.domain_routes.proofs.cutting.keep_one.Goals as goal

pub is_left-requires-clause-hop : goal.is_left-requires-clause-hop
is_left-requires-clause-hop c = λ w leads.
    hop_read c.args.plan.now.size c.args.before.now c.from-k.result c.args.u w _ c.requires.hops (omega (arith, c.from-k.ensures)) c.requires.node
    c.requires.one_a_node leads
