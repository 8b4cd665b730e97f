-- A plan stays that of a domain when both are changed alike.
use Rattle.std.proofs.Common.{◌≡◌, ◌≢◌, ℕ, ◌<◌, ◌||◌, Bool, true, false, cond, List, length, sym, ap, refl, ◌∙◌, arith}
use Rattle.std.proofs.lemmas.List.{get_or-replicate}
use Rattle.netchange_core.specs.Calls.{newcomer, opened}
use Rattle.netchange_core.specs.OpeningView.{OpeningView}
use Rattle.netchange_core.specs.World.{World, is_up, neighbour_at, nobody}
use Rattle.routing_domain.specs.Changes.{is_pair}
use Rattle.routing_domain.specs.Domain.{AreOpenings, Domain, IsInOrder, KeepsLinksAndFilters, are_linked, neighbour, opened_domain}
use Rattle.routing_domain.specs.Events.{CanLink, cuts, links}
use Rattle.routing_domain.specs.Rest.{Topology}
use Rattle.routing_domain.proofs.Cuts.{cut_one, cut_other, cut_third, leaver, unlike}
use Rattle.routing_domain.proofs.Keeping.{member_of}
use Rattle.routing_domain.proofs.Links.{joiner, linked_one, linked_other, linked_third}
use Rattle.routing_domain.proofs.Topologies.{AreNow, SeesBut, cuts_topology, joiner_sees, leaver_sees, links_topology, two_read}
use Rattle.domain_routes.specs.Edits.{linking, unlinked}
use Rattle.domain_routes.specs.OfDomain.{IsPlanOf}
use Rattle.domain_routes.specs.PlanView.{IsPlan, PeerView, PlanView}
use Rattle.domain_routes.proofs.Linking.{IsLink, linking_keeps}
use Rattle.domain_routes.proofs.Unlinked.{strange}
use Rattle.domain_routes.proofs.Values.{link_value}

-- a domain with the links and filters of another has its plan
pub kept_follows : (d e : Domain) (p : PlanView) → KeepsLinksAndFilters d e → IsPlanOf d p → IsPlanOf e p
kept_follows d e p kept s = record {
  size = kept.size ∙ s.size;
  sizes = λ x short. ap (λ o. o.size) (kept.openings x) ∙ s.sizes x short;
  prefixes = λ x short. ap (λ o. o.prefixes) (kept.openings x) ∙ s.prefixes x short;
  linked = λ x y short near. kept.linked x y ∙ s.linked x y short near;
  imports = λ x y short near. kept.imports x y ∙ s.imports x y short near;
  exports = λ x y short near. kept.exports x y ∙ s.exports x y short near;
}

-- what a link that comes or goes leaves of a domain: openings and filters
record LeavesFilters (d e : Domain) : Type 0 where
  opening : (x : ℕ) → (e.router x).opening ≡ (d.router x).opening
  imports : (x y : ℕ) → (neighbour e x y).imports ≡ (neighbour d x y).imports
  exports : (x y : ℕ) → (neighbour e x y).exports ≡ (neighbour d x y).exports

two_leave : (d e : Domain) (u w : ℕ) (s t : World) (now : Bool) → AreNow d e u w s t → SeesBut (d.router u) s w now → SeesBut (d.router w) t u now →
    LeavesFilters d e
two_leave d e u w s t now are su sw = record {
  opening = λ x. two_read (λ r. r.opening) d e u w s t are x (λ _. su.opening) (λ _. sw.opening);
  imports = λ x y. two_read (λ r. (neighbour_at r.neighbours y).imports) d e u w s t are x (λ _. su.imports y) (λ _. sw.imports y);
  exports = λ x y. two_read (λ r. (neighbour_at r.neighbours y).exports) d e u w s t are x (λ _. su.exports y) (λ _. sw.exports y);
}

-- with the same openings and filters, and the links that a plan has then
linked_alike : (d e : Domain) (p : PlanView) (u w : ℕ) (now : Bool) → e.size ≡ d.size → LeavesFilters d e → IsPlanOf d p → IsPlan p → u < p.size → w < p.size → u ≢ w →
    ((x y : ℕ) → are_linked e x y ≡ cond (is_pair u w x y || is_pair w u x y) now (are_linked d x y)) → IsPlanOf e (linking now u w p)
linked_alike d e p u w now size leaves s plan from to apart linked =
    let l : IsLink p u w = record { plan = plan; from = from; to = to; apart = apart } in
    record {
      size = size ∙ s.size;
      sizes = λ x short. ap (λ o. o.size) (leaves.opening x) ∙ s.sizes x short;
      prefixes = λ x short. ap (λ o. o.prefixes) (leaves.opening x) ∙ s.prefixes x short;
      linked = λ x y short near. linked x y
          ∙ ap (λ b. cond (is_pair u w x y || is_pair w u x y) now b) (s.linked x y short near)
          ∙ sym (link_value p u w now plan from to apart x y);
      imports = λ x y short near. leaves.imports x y ∙ s.imports x y short near
          ∙ sym (linking_keeps (λ (c : PeerView). c.imports) (λ c b. refl) p u w now l x y);
      exports = λ x y short near. leaves.exports x y ∙ s.exports x y short near
          ∙ sym (linking_keeps (λ (c : PeerView). c.exports) (λ c b. refl) p u w now l x y);
    }

pub links_follow : (d : Domain) (p : PlanView) (u w : ℕ) → IsInOrder d → IsPlanOf d p → IsPlan p → CanLink d u w →
    IsPlanOf (links d u w) (linking true u w p)
links_follow d p u w o s plan c =
    linked_alike d (links d u w) p u w true refl
    (two_leave d (links d u w) u w (joiner (d.router u) w) (joiner (d.router w) u) true
    (record { one = linked_one d u w o c; other = linked_other d u w o c; third = λ x one other. linked_third d u w x one other })
    (joiner_sees d.size u w (d.router u) (member_of d u o c.from) c.to) (joiner_sees d.size w u (d.router w) (member_of d w o c.to) c.from))
    s plan (omega (arith, c.from, s.size)) (omega (arith, c.to, s.size)) c.apart
    (λ x y. ap (λ (m : Topology). m.linked x y) (links_topology d u w 0 o c))

pub cuts_follow : (d : Domain) (p : PlanView) (u w : ℕ) → IsInOrder d → IsPlanOf d p → IsPlan p → u < d.size → w < d.size → are_linked d u w ≡ true →
    IsPlanOf (cuts d u w) (linking false u w p)
cuts_follow d p u w o s plan from to linked =
    linked_alike d (cuts d u w) p u w false refl
    (two_leave d (cuts d u w) u w (leaver (d.router u) w) (leaver (d.router w) u) false
    (record { one = cut_one d u w o from to linked; other = cut_other d u w o from to linked; third = λ x one other. cut_third d u w x one other })
    (leaver_sees d.size u w (d.router u) (member_of d u o from) to) (leaver_sees d.size w u (d.router w) (member_of d w o to) from))
    s plan (omega (arith, from, s.size)) (omega (arith, to, s.size)) (unlike d u w o from linked)
    (λ x y. ap (λ (m : Topology). m.linked x y) (cuts_topology d u w 0 o from to linked))

-- routers that were just opened, and a plan without links
newcomer_at : (o : OpeningView) (k : ℕ) → k < o.size → neighbour_at (opened o).neighbours k ≡ newcomer o
newcomer_at o k near = get_or-replicate o.size k (newcomer o) nobody near

pub opened_follows : (prefixes : List (List Bool)) (openings : ℕ → OpeningView) → AreOpenings (length prefixes) openings →
    ((u : ℕ) → u < length prefixes → (openings u).prefixes ≡ prefixes) → IsPlanOf (opened_domain (length prefixes) openings) (unlinked prefixes)
opened_follows prefixes openings a same = record {
  size = refl;
  sizes = a.size;
  prefixes = same;
  linked = λ u w short near. ap is_up (newcomer_at (openings u) w (omega (arith, near, a.size u short))) ∙ sym (ap (λ (c : PeerView). c.linked) (strange prefixes u w));
  imports = λ u w short near. ap (λ n. n.imports) (newcomer_at (openings u) w (omega (arith, near, a.size u short))) ∙ sym (ap (λ (c : PeerView). c.imports) (strange prefixes u w));
  exports = λ u w short near. ap (λ n. n.exports) (newcomer_at (openings u) w (omega (arith, near, a.size u short))) ∙ sym (ap (λ (c : PeerView). c.exports) (strange prefixes u w));
}
