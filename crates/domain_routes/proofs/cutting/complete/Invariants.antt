use Rattle.std.proofs.Common.{◌≡◌, true, length}
use Rattle.domain_routes.specs.Left.{AreBestBefore}
use Rattle.domain_routes.specs.Routes.{route_at}
use Rattle.domain_routes.specs.Solving.{is_done}
use Rattle.domain_routes.specs.Topology.{topology}
use Rattle.domain_routes.proofs.Waiting.{waiting}
use Rattle.domain_routes.proofs.cutting.complete.Given as goal

abbrev pub invariant-loop-w : goal.invariant-loop-w
invariant-loop-w l = record {
  one_a_node : length l.routes ≡ l.plan.size;
  marks : length l.done ≡ l.plan.size;
  own : is_done l.done l.v ≡ true;
  best : AreBestBefore (topology l.plan l.v) l.v (route_at l.plan.size l.routes) (is_done l.done) l.plan.size;
}

-- one node fewer waits each time
abbrev pub decreases-loop-w : goal.decreases-loop-w
decreases-loop-w l = waiting l.done
