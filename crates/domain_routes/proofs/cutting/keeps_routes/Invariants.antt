use Rattle.std.proofs.Common.{ℕ, ◌<◌}
use Rattle.domain_routes.specs.Left.{IsLeft}
use Rattle.domain_routes.specs.PlanView.{is_linked}
use Rattle.domain_routes.specs.Routes.{route_at}
use Rattle.domain_routes.proofs.Left.{all}
use Rattle.domain_routes.proofs.cutting.keeps_routes.Given as goal

-- those of the nodes before this one are left
abbrev pub invariant-loop-u : goal.invariant-loop-u
invariant-loop-u l = (x : ℕ) → x < l.u → IsLeft (is_linked l.plan) all x (route_at l.plan.size l.before x).via
