use Rattle.std.proofs.Common.{◌≡◌, ℕ, ◌<◌, ◌≤◌, true, length}
use Rattle.domain_routes.specs.Routes.{route_at}
use Rattle.domain_routes.specs.Solving.{IsOffered, is_done}
use Rattle.domain_routes.specs.Topology.{topology}
use Rattle.domain_routes.proofs.cutting.offer.Given as goal

-- the nodes before this one were offered the way, and the others keep their routes, as do those that are done
abbrev pub invariant-loop-u : goal.invariant-loop-u
invariant-loop-u l = record {
  one_a_node : length l.routes ≡ l.plan.size;
  offered : (x : ℕ) → x < l.u → IsOffered (topology l.plan l.v) l.w l.dist x (route_at l.plan.size l.initial.routes x) (route_at l.plan.size l.routes x);
  keeps : (x : ℕ) → is_done l.done x ≡ true → route_at l.plan.size l.routes x ≡ route_at l.plan.size l.initial.routes x;
  behind : (x : ℕ) → l.u ≤ x → route_at l.plan.size l.routes x ≡ route_at l.plan.size l.initial.routes x;
}
