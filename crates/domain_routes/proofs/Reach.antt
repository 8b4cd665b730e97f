-- How far the routes of a plan go bounds how soon a domain with its links and filters is quiet.
use Rattle.std.proofs.Common.{◌≡◌, ⊎_elim, ℕ, ◌+◌, ◌<◌, ◌≤◌, zero, suc, max, min, List, cond, sym, ap, subst, ◌∙◌, arith}
use Rattle.std.proofs.lemmas.Bool.{cases_eq, cases_lt, lt-ltb}
use Rattle.routing_domain.proofs.Alone.{alone}
use Rattle.routing_domain.proofs.Emptied.{quiet_after, quiet_soon}
use Rattle.routing_domain.proofs.Increasing.{never_nearer}
use Rattle.routing_domain.specs.Domain.{Domain, IsInOrder, IsQuiet, topology as domain_topology}
use Rattle.routing_domain.specs.Phases.{AreWithin, Phases}
use Rattle.routing_domain.specs.Rest.{IsRest}
use Rattle.domain_routes.specs.declared.best.Best.{Best}
use Rattle.domain_routes.specs.OfDomain.{IsPlanOf}
use Rattle.domain_routes.specs.PlanView.{PlanView}
use Rattle.domain_routes.specs.Reach.{counted, greatest, greatest_below, greatest_to, phases_to_rest}
use Rattle.domain_routes.specs.Routes.{AreRoutes, route_at}
use Rattle.domain_routes.specs.Topology.{topology}
use Rattle.domain_routes.proofs.OfDomain.{of_domain}

-- one number more
pub greatest_more : (n : ℕ) (f : ℕ → ℕ) → greatest_below (n + 1) f ≡ max (greatest_below n f) (f n)
greatest_more n f = ap (λ k. greatest_below k f) (let more : n + 1 ≡ suc n = omega arith in more)

-- no value is greater
no_greater : (n : ℕ) (f : ℕ → ℕ) (k : ℕ) → k < n → f k ≤ greatest_below n f
no_greater zero f k short = absurd (omega (arith, short))
no_greater (suc n) f k short =
    ⊎_elim
    (λ (last : k ≡ n). omega (arith, ap f last))
    (λ (other : k ≡ n → ⊥). omega (arith, no_greater n f k (omega (arith, short, other))))
    (cases_eq k n)

-- so no distance is, where each of them counts
within_greatest : (size limit : ℕ) (dist : ℕ → ℕ → ℕ) (u v : ℕ) → u < size → v < size → dist v u < limit → dist v u ≤ greatest size limit dist
within_greatest size limit dist u v short there counts =
    omega (
      arith,
      ap (λ t. cond t (dist v u) 0) (lt-ltb (dist v u) limit counts),
      no_greater size (λ x. counted limit (dist v x)) u short,
      no_greater size (λ x. greatest_to size limit (dist x)) v there,
    )

-- the distances of a plan's routes
abbrev pub distances : PlanView → (ℕ → List Best) → ℕ → ℕ → ℕ
distances p all v u = (route_at p.size (all v) u).dist

pub plan_within : (d : Domain) (p : PlanView) (all : ℕ → List Best) → IsInOrder d → IsPlanOf d p → ((v : ℕ) → v < p.size → AreRoutes (topology p v) v (all v)) →
    AreWithin (greatest p.size (p.size + 1) (distances p all)) d
plan_within d p all o s routes = λ v there a r u short.
    let inside : v < p.size = omega (arith, there, s.size) in
    let near : u < p.size = omega (arith, short, s.size) in
    let same : a u ≡ distances p all v u =
    alone (domain_topology d v) v a (distances p all v) (never_nearer d o v) r (of_domain d p s v (distances p all v) (routes v inside).rest) u short in
    omega (
      arith,
      same,
      within_greatest p.size (p.size + 1) (distances p all) u v near inside
          (let limit : distances p all v u < p.size + 1 = omega (arith, (routes v inside).rest.bounded u near) in limit),
    )

pub plan_quiet : (d e : Domain) (p : PlanView) (all : ℕ → List Best) → IsInOrder d → IsPlanOf d p → ((v : ℕ) → v < p.size → AreRoutes (topology p v) v (all v)) →
    Phases (phases_to_rest p.size (distances p all)) d e → IsQuiet e
plan_quiet d e p all o s routes phases =
    ⊎_elim
    (λ (few : far + 1 < p.size).
    quiet_soon far d e o (plan_within d p all o s routes) (subst (λ n. Phases n d e) (let soon : min p.size (far + 1) ≡ suc far = omega (arith, few) in soon) phases))
    (λ (many : p.size ≤ far + 1).
    quiet_after d e o (subst (λ n. Phases n d e) (let all_of_them : min p.size (far + 1) ≡ d.size = omega (arith, many, s.size) in all_of_them) phases))
    (cases_lt (far + 1) p.size)
  where
    far : ℕ
    far = greatest p.size (p.size + 1) (distances p all)
