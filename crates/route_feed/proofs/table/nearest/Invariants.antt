use Rattle.std.proofs.Common.{◌≡◌}
use Rattle.route_feed.specs.Table.{nearest_below, prefix_at, route_at}
use Rattle.route_feed.proofs.table.nearest.Given as goal

-- the route to the nearest of the nodes so far
abbrev pub invariant-loop-v : goal.invariant-loop-v
invariant-loop-v l = record { best : l.best ≡ nearest_below l.size (prefix_at l.prefixes) (route_at l.routes) l.prefix l.v }
