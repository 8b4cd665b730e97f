-- Plans and domains.
use Rattle.std.specs.Prelude.{◌≡◌, ℕ, ◌<◌}
use Rattle.routing_domain.specs.Domain.{Domain, are_linked, neighbour}
use Rattle.domain_routes.specs.PlanView.{PlanView, is_linked, peer}

-- the routers of a domain have the links and filters of a plan, and were opened with its prefixes
pub record IsPlanOf (d : Domain) (p : PlanView) : Type 0 where
  pub size : d.size ≡ p.size
  pub sizes : (u : ℕ) → u < p.size → (d.router u).opening.size ≡ p.size
  pub prefixes : (u : ℕ) → u < p.size → (d.router u).opening.prefixes ≡ p.prefixes
  pub linked : (u w : ℕ) → u < p.size → w < p.size → are_linked d u w ≡ is_linked p u w
  pub imports : (u w : ℕ) → u < p.size → w < p.size → (neighbour d u w).imports ≡ (peer p u w).imports
  pub exports : (u w : ℕ) → u < p.size → w < p.size → (neighbour d u w).exports ≡ (peer p u w).exports
