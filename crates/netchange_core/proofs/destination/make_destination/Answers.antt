use Rattle.std.proofs.Common.{map, sym, subst, ◌∙◌}
use Rattle.netchange_core.specs.Kept.{view_of}
use Rattle.netchange_core.specs.Leading.{ListsReachable}
use Rattle.netchange_core.proofs.Scanned.{lists_reachable}
use Rattle.netchange_core.proofs.destination.make_destination.Goals as goal

pub best_by-route-requires-clause-listed : goal.best_by-route-requires-clause-listed
best_by-route-requires-clause-listed c =
    subst (λ xs. ListsReachable c.args.opening.now.size xs c.args.present.now)
    (sym (c.deref.ensures.value ∙ c.in_ok-distances.ensures))
    (lists_reachable c.args.opening.now c.args.node (map view_of c.args.neighbours.now) c.args.present.now c.requires.listed)
