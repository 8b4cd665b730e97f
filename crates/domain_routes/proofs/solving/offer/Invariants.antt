use Rattle.std.proofs.Common.{◌≡◌, ℕ, ◌<◌, ◌≤◌}
use Rattle.domain_routes.specs.Routes.{route_at}
use Rattle.domain_routes.specs.Solving.{IsOffered}
use Rattle.domain_routes.specs.Topology.{topology}
use Rattle.domain_routes.proofs.solving.offer.Given as goal

-- the nodes before this one were offered the way, and the others keep their routes
abbrev pub invariant-loop-u : goal.invariant-loop-u
invariant-loop-u l = record {
  offered : (x : ℕ) → x < l.u → IsOffered (topology l.plan l.v) l.w l.dist x (route_at l.plan.size l.initial.routes x) (route_at l.plan.size l.routes x);
  behind : (x : ℕ) → l.u ≤ x → route_at l.plan.size l.routes x ≡ route_at l.plan.size l.initial.routes x;
}
