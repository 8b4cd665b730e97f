use Rattle.std.proofs.Common.{◌≡◌, ◌<◌, ℕ, length}
use Rattle.netchange_core.specs.Best.{best}
use Rattle.route_feed.specs.Table.{route_at}
use Rattle.route_feed.proofs.look.read_routes.Given as goal

-- the routes to the nodes so far
abbrev pub invariant-loop-v : goal.invariant-loop-v
invariant-loop-v l = record {
  count : length l.routes.items ≡ l.v;
  each : (u : ℕ) → u < l.v → route_at l.routes.items u ≡ best l.tables u;
}
