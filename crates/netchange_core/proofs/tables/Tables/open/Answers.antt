use Rattle.std.proofs.Common.{map, sym, subst}
use Rattle.netchange_core.specs.Kept.{view_of}
use Rattle.netchange_core.specs.Present.{ArePresent, sessions_of}
use Rattle.netchange_core.proofs.Presence.{none_present}
use Rattle.netchange_core.proofs.tables.Tables.open.Goals as goal

pub new-requires-2-clause-present : goal.new-requires-2-clause-present
new-requires-2-clause-present c =
    subst (ArePresent 0 (sessions_of (map view_of c.in_ok-neighbours.neighbours.items))) (sym c.new.ensures.items)
    (none_present c.args.opening c.args.opening.size _ c.in_ok-neighbours.ensures)
