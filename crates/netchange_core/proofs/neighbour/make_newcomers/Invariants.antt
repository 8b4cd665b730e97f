use Rattle.std.proofs.Common.{◌≡◌, map, replicate}
use Rattle.netchange_core.specs.Calls.{newcomer}
use Rattle.netchange_core.specs.Kept.{view_of}
use Rattle.netchange_core.proofs.neighbour.make_newcomers.Given as goal

abbrev pub invariant-loop : goal.invariant-loop
invariant-loop l = map view_of l.neighbours.items ≡ replicate l.counter (newcomer l.opening)
