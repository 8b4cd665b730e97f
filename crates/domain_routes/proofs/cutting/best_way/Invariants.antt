use Rattle.domain_routes.specs.Routes.{route_at}
use Rattle.domain_routes.specs.Solving.{is_done}
use Rattle.domain_routes.specs.Topology.{topology}
use Rattle.domain_routes.proofs.Left.{IsBestBelow}
use Rattle.domain_routes.proofs.cutting.best_way.Given as goal

-- the best of the ways through lesser nodes than this
abbrev pub invariant-loop-w : goal.invariant-loop-w
invariant-loop-w l = IsBestBelow (topology l.plan l.v) (route_at l.plan.size l.routes) (is_done l.done) l.u l.w l.best
