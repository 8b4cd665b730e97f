use Rattle.std.proofs.Common.{map}
use Rattle.netchange_core.specs.Kept.{view_of}
use Rattle.netchange_core.specs.Present.{sessions_of}
use Rattle.netchange_core.proofs.Inserted.{ArePresentBelow}
use Rattle.netchange_core.proofs.sessions.list_present.Given as goal

abbrev pub invariant-loop-node : goal.invariant-loop-node
invariant-loop-node l = ArePresentBelow l.node l.count (sessions_of (map view_of l.neighbours)) l.present.items
