-- A plan's topology and that of a domain with its links and filters are at rest together.
use Rattle.std.proofs.Common.{◌≡◌, ℕ, suc, ◌<◌, Option, Some, None, sym, ap, refl, ◌∙◌, arith}
use Rattle.filter_verifier.specs.VerifiedView.{VerifiedView}
use Rattle.netchange_core.specs.declared.reply.Via.{Via}
use Rattle.netchange_core.specs.declared.reply.Via.TheVariants.{Local, Node, Nowhere}
use Rattle.netchange_core.specs.OpeningView.{OpeningView}
use Rattle.netchange_core.specs.FilteredDistance.{filtered_distance}
use Rattle.routing_domain.specs.Domain.{Domain, exported, imported, neighbour, topology as domain_topology}
use Rattle.routing_domain.specs.Rest.{IsRest, LeadsThrough, Topology}
use Rattle.routing_domain.specs.Ways.{GoesVia}
use Rattle.domain_routes.specs.OfDomain.{IsPlanOf}
use Rattle.domain_routes.specs.PlanView.{PlanView, opening_of, peer}
use Rattle.domain_routes.specs.Topology.{filtered, topology}

-- two topologies of one size, with the same links and tolls between their nodes
pub record AreAlike (m n : Topology) : Type 0 where
  pub size : m.size ≡ n.size
  pub linked : (u w : ℕ) → u < m.size → w < m.size → m.linked u w ≡ n.linked u w
  pub filtered : (u w x : ℕ) → u < m.size → w < m.size → m.filtered u w x ≡ n.filtered u w x

pub leads_alike : (m n : Topology) → AreAlike m n → (to : ℕ) (dist : ℕ → ℕ) (u w : ℕ) → u < m.size → LeadsThrough m to dist u w →
    LeadsThrough n to dist u w
leads_alike m n s to dist u w short l = record {
  other = l.other;
  member = omega (arith, l.member, s.size);
  linked = sym (s.linked u w short l.member) ∙ l.linked;
  one_more = l.one_more ∙ ap suc (s.filtered u w (dist w) short l.member);
  in_reach = omega (arith, l.in_reach, s.size);
}

pub rest_alike : (m n : Topology) → AreAlike m n → (to : ℕ) (dist : ℕ → ℕ) → IsRest m to dist → IsRest n to dist
rest_alike m n s to dist r = record {
  own = r.own;
  bounded = λ u short. omega (arith, s.size, r.bounded u (omega (arith, short, s.size)));
  least = λ u short other w member linked.
      let here : u < m.size = omega (arith, short, s.size) in
      let there : w < m.size = omega (arith, member, s.size) in
      omega (arith, s.filtered u w (dist w) here there, r.least u here other w there (s.linked u w here there ∙ linked));
  led = λ u short other reach.
      let here : u < m.size = omega (arith, short, s.size) in
      let l : (w : ℕ) × LeadsThrough m to dist u w = r.led u here other (omega (arith, reach, s.size)) in
      (l.0, leads_alike m n s to dist u (l.0) here (l.1));
}

-- a filter is shown the size and the prefixes of an opening alone
pub same_filtered_distance : (o p : OpeningView) → o.size ≡ p.size → o.prefixes ≡ p.prefixes → (f : Option VerifiedView) (v d : ℕ) → filtered_distance o f v d ≡ filtered_distance p f v d
unfolding filtered_distance
same_filtered_distance o p size prefixes None v d = refl
same_filtered_distance o p size prefixes (Some f) v d = cc

toll_alike : (d : Domain) (p : PlanView) → IsPlanOf d p → (v u w x : ℕ) → u < p.size → w < p.size → filtered p v u w x ≡ imported d u w v (exported d w u v x)
toll_alike d p s v u w x short within =
    same_filtered_distance (opening_of p) (d.router u).opening (sym (s.sizes u short)) (sym (s.prefixes u short)) (peer p u w).imports v
    (filtered_distance (opening_of p) (peer p w u).exports v x)
    ∙ ap (λ y. filtered_distance (d.router u).opening (peer p u w).imports v y)
    (same_filtered_distance (opening_of p) (d.router w).opening (sym (s.sizes w within)) (sym (s.prefixes w within)) (peer p w u).exports v x)
    ∙ ap (λ f. filtered_distance (d.router u).opening f v (filtered_distance (d.router w).opening (peer p w u).exports v x)) (sym (s.imports u w short within))
    ∙ ap (λ f. filtered_distance (d.router u).opening (neighbour d u w).imports v (filtered_distance (d.router w).opening f v x)) (sym (s.exports w u within short))

-- a plan's topology and that of its domain
pub alike : (d : Domain) (p : PlanView) → IsPlanOf d p → (v : ℕ) → AreAlike (topology p v) (domain_topology d v)
alike d p s v = record {
  size = sym s.size;
  linked = λ u w short within. sym (s.linked u w short within);
  filtered = λ u w x short within. toll_alike d p s v u w x short within;
}

-- and back
pub alike_back : (m n : Topology) → AreAlike m n → AreAlike n m
alike_back m n s = record {
  size = sym s.size;
  linked = λ u w short within. sym (s.linked u w (omega (arith, short, s.size)) (omega (arith, within, s.size)));
  filtered = λ u w x short within. sym (s.filtered u w x (omega (arith, short, s.size)) (omega (arith, within, s.size)));
}

-- through whom a route goes in the one, it goes in the other
pub goes_alike : (m n : Topology) → AreAlike m n → (to : ℕ) (dist : ℕ → ℕ) (u : ℕ) → u < m.size → (via : Via) → GoesVia m to dist u via → GoesVia n to dist u via
goes_alike m n s to dist u short Local goes = goes
goes_alike m n s to dist u short (Node w) goes = record {
  leads = leads_alike m n s to dist u w short goes.leads;
  first = λ x before l. goes.first x before (leads_alike n m (alike_back m n s) to dist u x (omega (arith, short, s.size)) l);
}
goes_alike m n s to dist u short Nowhere goes = (goes.0, goes.1 ∙ s.size)

pub of_domain : (d : Domain) (p : PlanView) → IsPlanOf d p → (v : ℕ) (dist : ℕ → ℕ) → IsRest (topology p v) v dist →
    IsRest (domain_topology d v) v dist
of_domain d p s v dist r =
    rest_alike (topology p v) (domain_topology d v) (alike d p s v) v dist r
