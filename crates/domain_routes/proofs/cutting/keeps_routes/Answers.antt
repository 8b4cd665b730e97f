-- One route more is left; and where all are, they are those at rest.
use Rattle.std.proofs.Common.{arith}
use Rattle.domain_routes.proofs.Left.{all_left, left_below_more}
use Rattle.domain_routes.proofs.cutting.keeps_routes.Goals as goal

pub loop-u-preserved : goal.loop-u-preserved
loop-u-preserved c =
    left_below_more c.args.plan.now c.args.before.now c.from.result c.loop-u.u _ (omega (arith, c.from.ensures)) (omega arith)
    c.loop-u.invariant (c.keeps_route.ensures c.if-not-keeps_route.false)

pub returns : goal.returns
returns c = λ _ v short were.
    all_left c.args.plan.now c.args.before.now (λ u less. c.loop-u.invariant u (omega (arith, less, c.loop-u-test.false))) v short were
