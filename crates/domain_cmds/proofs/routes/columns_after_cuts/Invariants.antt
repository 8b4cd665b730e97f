use Rattle.std.proofs.Common.{◌≡◌, ℕ, ◌<◌, length}
use Rattle.std.specs.Prelude.{[], slice_index_or}
use Rattle.domain_routes.specs.Routes.{AreRoutes}
use Rattle.domain_routes.specs.Topology.{topology}
use Rattle.domain_cmds.proofs.routes.columns_after_cuts.Given as goal

-- the routes to each destination so far
abbrev pub invariant-loop-v : goal.invariant-loop-v
invariant-loop-v l = record {
  count : length l.all.items ≡ l.v;
  routes : (x : ℕ) → x < l.v → AreRoutes (topology l.plan x) x (slice_index_or l.all.items x []);
}
