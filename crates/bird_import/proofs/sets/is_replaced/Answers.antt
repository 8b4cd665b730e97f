use Rattle.bird_import.proofs.Tests.{both_empty, more_replaced}
use Rattle.bird_import.proofs.sets.is_replaced.Goals as goal

pub loop-preserved : goal.loop-preserved
loop-preserved c more =
    c.loop.invariant (more_replaced c.args.name.now c.args.set.now c.loop.left.now c.loop.rest.now c.in-Some.later.now c.in-Some.others.now
    c.in-Some.ensures more)

pub returns : goal.returns
returns c holds =
    let both = c.are_both_empty.ensures holds in
    c.loop.invariant (both_empty c.args.name.now c.args.set.now c.loop.left.now c.loop.rest.now both.0 both.1)
