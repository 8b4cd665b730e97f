-- When a domain with the links and filters of a plan is quiet, its routers have the plan's routes.
use Rattle.std.proofs.Common.{◌≡◌, ℕ, ◌<◌, List, sym, arith}
use Rattle.netchange_core.specs.Best.{best, distance}
use Rattle.routing_domain.proofs.Alone.{alone}
use Rattle.routing_domain.proofs.Increasing.{never_nearer}
use Rattle.routing_domain.proofs.Quiet.{quiet_goes, quiet_rests}
use Rattle.routing_domain.specs.Domain.{Domain, IsInOrder, IsQuiet, topology as domain_topology}
use Rattle.domain_routes.specs.declared.best.Best.{Best}
use Rattle.domain_routes.specs.OfDomain.{IsPlanOf}
use Rattle.domain_routes.specs.PlanView.{PlanView}
use Rattle.domain_routes.specs.Routes.{AreRoutes, route_at}
use Rattle.domain_routes.specs.Topology.{topology}
use Rattle.domain_routes.proofs.OfDomain.{alike, goes_alike, of_domain}
use Rattle.domain_routes.proofs.One.{one_via}

pub quiet_distances : (d : Domain) (p : PlanView) → IsInOrder d → IsQuiet d → IsPlanOf d p → (v : ℕ) → v < p.size → (routes : List Best) →
    AreRoutes (topology p v) v routes → (u : ℕ) → u < p.size → (route_at p.size routes u).dist ≡ distance (d.router u) v
quiet_distances d p o q s v there routes r u short =
    let inside : v < d.size = omega (arith, there, s.size) in
    let within : u < d.size = omega (arith, short, s.size) in
    alone (domain_topology d v) v (λ x. (route_at p.size routes x).dist) (λ x. distance (d.router x) v) (never_nearer d o v)
    (of_domain d p s v (λ x. (route_at p.size routes x).dist) r.rest) (quiet_rests d o q v inside) u within

pub quiet_vias : (d : Domain) (p : PlanView) → IsInOrder d → IsQuiet d → IsPlanOf d p → (v : ℕ) → v < p.size → (routes : List Best) →
    AreRoutes (topology p v) v routes → (u : ℕ) → u < p.size → (route_at p.size routes u).via ≡ (best (d.router u) v).via
quiet_vias d p o q s v there routes r u short =
    let inside : v < d.size = omega (arith, there, s.size) in
    let within : u < d.size = omega (arith, short, s.size) in
    let planned : ℕ → ℕ = λ x. (route_at p.size routes x).dist in
    let there_is : ℕ → ℕ = λ x. distance (d.router x) v in
    let same : (x : ℕ) → x < d.size → planned x ≡ there_is x = λ x near. quiet_distances d p o q s v there routes r x (omega (arith, near, s.size)) in
    one_via (domain_topology d v) v planned there_is same (λ x near. sym (same x near)) u within
    (route_at p.size routes u).via (best (d.router u) v).via
    (goes_alike (topology p v) (domain_topology d v) (alike d p s v) v planned u short (route_at p.size routes u).via (r.vias u short))
    (quiet_goes d o q v inside u within)
