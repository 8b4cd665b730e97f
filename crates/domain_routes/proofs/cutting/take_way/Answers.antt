-- The best way is taken.
use Rattle.std.proofs.Common.{arith}
use Rattle.domain_routes.specs.Solving.{is_done}
use Rattle.domain_routes.specs.Topology.{topology}
use Rattle.domain_routes.proofs.Left.{waits_read, way_taken}
use Rattle.domain_routes.proofs.cutting.take_way.Goals as goal

pub returns : goal.returns
returns c =
    way_taken (topology c.args.plan.now c.args.v) c.args.v c.args.routes.now (is_done c.args.done.now) c.from-k.result c.args.u c.best_way.result
    (omega (arith, c.from-k.ensures)) (omega (arith, c.requires.u, c.requires.one_a_node)) c.requires.own
    (waits_read c.args.done.now c.from-k.result c.args.u _ (omega (arith, c.from-k.ensures)) (omega (arith, c.requires.u, c.requires.marks)) c.if-done-k.false)
    c.requires.best c.best_way.ensures
