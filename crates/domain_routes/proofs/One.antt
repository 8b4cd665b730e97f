-- There is one list of routes.
use Rattle.std.proofs.Common.{◌≡◌, ◌⊎◌, ⊎_elim, ℕ, suc, ◌<◌, List, sym, ap, refl, ◌∙◌, arith}
use Rattle.std.proofs.lemmas.Bool.{cases_order}
use Rattle.std.proofs.lemmas.List.{ext_get_or}
use Rattle.netchange_core.specs.declared.reply.Via.{Via}
use Rattle.netchange_core.specs.declared.reply.Via.TheVariants.{Local, Node, Nowhere}
use Rattle.routing_domain.specs.Rest.{LeadsThrough, NeverNearer, Topology}
use Rattle.routing_domain.specs.Ways.{GoesVia}
use Rattle.routing_domain.proofs.Alone.{alone}
use Rattle.domain_routes.specs.declared.best.Best.{Best}
use Rattle.domain_routes.specs.Routes.{AreRoutes, nowhere, route_at}

abbrev pub AreSame : Topology → (ℕ → ℕ) → (ℕ → ℕ) → Type 0
AreSame m a b = (u : ℕ) → u < m.size → a u ≡ b u

leads_too : (m : Topology) (to : ℕ) (a b : ℕ → ℕ) → AreSame m a b → (u w : ℕ) → u < m.size → LeadsThrough m to a u w → LeadsThrough m to b u w
leads_too m to a b same u w short l = record {
  other = l.other;
  member = l.member;
  linked = l.linked;
  one_more = sym (same u short) ∙ l.one_more ∙ ap (λ n. suc (m.filtered u w n)) (same w l.member);
  in_reach = omega (arith, same u short, l.in_reach);
}

-- at the same distances a route goes one way
pub one_via : (m : Topology) (to : ℕ) (a b : ℕ → ℕ) → AreSame m a b → AreSame m b a → (u : ℕ) → u < m.size → (v w : Via) →
    GoesVia m to a u v → GoesVia m to b u w → v ≡ w
one_via m to a b ab ba u short Local Local p q = refl
one_via m to a b ab ba u short Local (Node w) p q = absurd (q.leads.other p)
one_via m to a b ab ba u short Local Nowhere p q = absurd (q.0 p)
one_via m to a b ab ba u short (Node v) Local p q = absurd (p.leads.other q)
one_via m to a b ab ba u short (Node v) (Node w) p q =
    ⊎_elim
    (λ (same : v ≡ w). ap Node same)
    (λ (other : (v < w) ⊎ (w < v)). ⊎_elim
    (λ (less : v < w). absurd (q.first v less (leads_too m to a b ab u v short p.leads)))
    (λ (more : w < v). absurd (p.first w more (leads_too m to b a ba u w short q.leads)))
    other)
    (cases_order v w)
one_via m to a b ab ba u short (Node v) Nowhere p q = absurd (omega (arith, p.leads.in_reach, ab u short, q.1))
one_via m to a b ab ba u short Nowhere Local p q = absurd (p.0 q)
one_via m to a b ab ba u short Nowhere (Node w) p q = absurd (omega (arith, q.leads.in_reach, ab u short, p.1))
one_via m to a b ab ba u short Nowhere Nowhere p q = refl

abbrev route : ℕ → Via → Best
route dist via = record { dist = dist; via = via }

pub route_of_parts : (r s : Best) → r.dist ≡ s.dist → r.via ≡ s.via → r ≡ s
route_of_parts r s dist via = ap (λ d. route d r.via) dist ∙ ap (route s.dist) via

pub one : (m : Topology) (to : ℕ) → NeverNearer m → (a b : List Best) → AreRoutes m to a → AreRoutes m to b → a ≡ b
one m to n a b ra rb =
    let ab : AreSame m (λ u. (route_at m.size a u).dist) (λ u. (route_at m.size b u).dist) =
    alone m to (λ u. (route_at m.size a u).dist) (λ u. (route_at m.size b u).dist) n ra.rest rb.rest in
    ext_get_or (nowhere m.size) a b (ra.one_a_node ∙ sym rb.one_a_node) (λ u less.
    let short : u < m.size = omega (arith, less, ra.one_a_node) in
    route_of_parts (route_at m.size a u) (route_at m.size b u) (ab u short)
    (one_via m to (λ x. (route_at m.size a x).dist) (λ x. (route_at m.size b x).dist) ab (λ x within. sym (ab x within)) u short
    (route_at m.size a u).via (route_at m.size b u).via (ra.vias u short) (rb.vias u short)))
