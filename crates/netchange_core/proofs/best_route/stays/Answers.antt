use Rattle.std.proofs.Common.{arith}
use Rattle.std.proofs.lemmas.Bool.{leb-true, not-true}
use Rattle.netchange_core.proofs.BestAfter.{best_after_nowhere, best_after_still, stays_by}
use Rattle.netchange_core.proofs.best_route.stays.Goals as goal

pub returns-else-hop-from : goal.returns-else-hop-from
returns-else-hop-from c = λ o v xs yes best short.
    stays_by o v xs c.args.hop c.args.near c.args.best best
    (λ e. best_after_still o.size xs c.args.hop c.args.near c.args.best c.in-Node.node e short c.in-Node.is (omega arith)
    (c.overtakes.ensures.farther (not-true c.overtakes.result yes)))

pub returns-in-Nowhere : goal.returns-in-Nowhere
returns-in-Nowhere c = λ o v xs yes best short.
    let far = leb-true _ _ yes in
    stays_by o v xs c.args.hop c.args.near c.args.best best
    (λ e. best_after_nowhere o.size xs c.args.hop c.args.near c.args.best e short c.in-Nowhere.is (omega (arith, far)))
