use Rattle.std.proofs.Common.{arith}
use Rattle.filter_diff.proofs.Ordered.{lost_below, not_kept_first}
use Rattle.filter_diff.proofs.ordering.shown_with.Goals as goal

pub returns-then-not-has_next-clause-some : goal.returns-then-not-has_next-clause-some
returns-then-not-has_next-clause-some c smallest lost none =
    let below = lost_below c.args.code.now c.args.class.now c.args.metric c.requires.real c.requires.known lost in
    let far = c.has_next.ensures.none c.if-not-has_next.true in
    omega (arith, below, far)

pub returns-then-is_kept-clause-some : goal.returns-then-is_kept-clause-some
returns-then-is_kept-clause-some c smallest lost none =
    not_kept_first c.args.code.now c.args.class.now c.args.metric c.address.result.0 c.in_ok-prefix.prefix c.in_ok-route.route c.in_ok-after.after
    c.run_checked-lesser.result c.run_checked-next.result c.requires.real c.requires.known lost c.address.ensures c.in_ok-prefix.ensures.1
    c.in_ok-route.ensures.1 c.in_ok-after.ensures.1 c.run_checked-lesser.ensures.outcome c.run_checked-next.ensures.outcome
    (c.is_kept.ensures.kept c.if-is_kept.true)
