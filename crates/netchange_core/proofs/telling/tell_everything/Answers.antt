use Rattle.std.proofs.Common.{◌≤◌, arith, subst, sym}
use Rattle.netchange_core.proofs.Opened.{best_within}
use Rattle.netchange_core.proofs.telling.tell_everything.Goals as goal

pub queue_message-requires-clause-reachable : goal.queue_message-requires-clause-reachable
queue_message-requires-clause-reachable c =
    let o = c.args.opening.now in
    let right = c.requires.destinations.right c.from.result c.index-destinations-from.result (omega arith) in
    subst (λ r. r.dist ≤ o.size) (sym right.best) (best_within o c.from.result _)
