use Rattle.std.proofs.Common.{slice_set}
use Rattle.netchange_core.specs.Leading.{LeadsListed}
use Rattle.netchange_core.proofs.best_route.nearest_after.Given as goal

abbrev pub invariant-loop-session : goal.invariant-loop-session
invariant-loop-session l =
    LeadsListed l.size l.session-index l.present (slice_set l.distances l.hop l.near) l.best
