use Rattle.std.proofs.Common.{MatchOption, length, ◌≡◌, ◌<◌}
use Rattle.domain_routes.specs.Routes.{route_at}
use Rattle.domain_routes.specs.Solving.{AreAllDone, IsNearest, is_done}
use Rattle.domain_routes.proofs.solving.nearest.Given as goal

-- of the nodes before this one
abbrev pub invariant-loop-u : goal.invariant-loop-u
invariant-loop-u l = MatchOption l.found (AreAllDone l.u (is_done l.done) × (l.least ≡ 65536))
    (λ w. (w < l.u) × IsNearest l.u (route_at (length l.routes) l.routes) (is_done l.done) w
    × (l.least ≡ (route_at (length l.routes) l.routes w).dist))
