-- No distance of a plan comes to less under its filters.
use Rattle.std.proofs.Common.{◌≡◌, ℕ, suc, ◌<◌, ◌≤◌, inr, refl, arith}
use Rattle.routing_domain.proofs.Increasing.{IsFarther, filtered_farther}
use Rattle.routing_domain.specs.Rest.{NeverNearer}
use Rattle.netchange_core.specs.FilteredDistance.{filtered_distance}
use Rattle.domain_routes.specs.Offers.{StaysBehind}
use Rattle.domain_routes.specs.PlanView.{PlanView, opening_of, peer}
use Rattle.domain_routes.specs.Solving.{IsOffered}
use Rattle.domain_routes.specs.Topology.{filtered, topology}
use Rattle.domain_routes.specs.declared.best.Best.{Best}

pub never_nearer : (p : PlanView) (v : ℕ) → NeverNearer (topology p v)
never_nearer p v = λ u w x short within limit.
    let out : IsFarther p.size x (filtered_distance (opening_of p) (peer p w u).exports v x) = filtered_farther (opening_of p) (peer p w u).exports v x limit in
    let into : IsFarther p.size (filtered_distance (opening_of p) (peer p w u).exports v x) (filtered p v u w x) =
    filtered_farther (opening_of p) (peer p u w).imports v (filtered_distance (opening_of p) (peer p w u).exports v x) out.within in
    omega (arith, out.farther, into.farther)

-- so a way that stays behind a route without filters does under them, and the route stays
pub not_taken : (p : PlanView) (v u w dist : ℕ) (route : Best) → u < p.size → w < p.size → dist ≤ p.size → StaysBehind (suc dist) w route
    → IsOffered (topology p v) w dist u route route
not_taken p v u w dist route short within limit behind =
    let farther : dist ≤ filtered p v u w dist = never_nearer p v u w dist short within limit in
    record {
      taken = λ _. inr (
        refl,
        record {
          near = omega (arith, behind.near, farther);
          first = λ tie. behind.first (omega (arith, behind.near, farther, tie));
        },
      );
      kept = λ _. refl;
    }
