use Rattle.std.proofs.Common.{arith, ◌∙◌}
use Rattle.netchange_core.proofs.BestAfter.{best_after_first, best_after_nowhere, best_after_now, best_after_still}
use Rattle.netchange_core.proofs.best_route.best_after.Goals as goal

pub returns-then-overtakes : goal.returns-then-overtakes
returns-then-overtakes c =
    c.through.ensures
    ∙ best_after_now c.args.size c.args.distances.now c.args.hop c.args.near c.args.best c.in-Node.node c.requires.best
    c.requires.within c.in-Node.is (c.overtakes.ensures.closer c.if-overtakes.true)

pub returns-else-hop-from : goal.returns-else-hop-from
returns-else-hop-from c =
    best_after_still c.args.size c.args.distances.now c.args.hop c.args.near c.args.best c.in-Node.node c.requires.best
    c.requires.within c.in-Node.is (omega arith) (c.overtakes.ensures.farther c.if-overtakes.false)

pub returns-then-from : goal.returns-then-from
returns-then-from c =
    c.through-then-from.ensures
    ∙ best_after_first c.args.size c.args.distances.now c.args.hop c.args.near c.args.best c.requires.best c.requires.within
    c.in-Nowhere.is (omega arith)

pub returns-else-from : goal.returns-else-from
returns-else-from c =
    best_after_nowhere c.args.size c.args.distances.now c.args.hop c.args.near c.args.best c.requires.best c.requires.within
    c.in-Nowhere.is (omega arith)
