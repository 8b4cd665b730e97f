use Rattle.std.proofs.Common.{◌≡◌, length}
use Rattle.domain_routes.specs.Left.{AreBestBefore}
use Rattle.domain_routes.specs.Routes.{route_at}
use Rattle.domain_routes.specs.Solving.{is_done}
use Rattle.domain_routes.specs.Topology.{topology}
use Rattle.domain_routes.proofs.cutting.take_ways.Given as goal

-- the nodes before this have their best ways
abbrev pub invariant-loop-u : goal.invariant-loop-u
invariant-loop-u l = record {
  one_a_node : length l.routes ≡ l.plan.size;
  best : AreBestBefore (topology l.plan l.v) l.v (route_at l.plan.size l.routes) (is_done l.done) l.u;
}
