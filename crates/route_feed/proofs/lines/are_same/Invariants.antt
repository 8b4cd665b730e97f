use Rattle.std.proofs.Common.{◌≡◌}
use Rattle.route_feed.specs.Changes.{are_same_below}
use Rattle.route_feed.specs.Table.{hop_at}
use Rattle.route_feed.proofs.lines.are_same.Given as goal

-- whether packets for the prefixes of the nodes so far go the same way
abbrev pub invariant-loop-v : goal.invariant-loop-v
invariant-loop-v l = record { same : l.are_same ≡ are_same_below (hop_at l.old) (hop_at l.new) l.v }
