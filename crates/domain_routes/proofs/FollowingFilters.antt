-- A plan stays that of a domain when a router gets a filter that the plan gets too.
use Rattle.std.proofs.Common.{◌≡◌, ◌≢◌, ⊎_elim, ℕ, ◌<◌, length, Some, sym, ap, subst, refl, ◌∙◌, arith}
use Rattle.std.proofs.Common.{Global}
use Rattle.std.specs.declared.sync.Arc.{Arc}
use Rattle.filter_verifier.specs.VerifiedView.{VerifiedView}
use Rattle.netchange_core.specs.declared.event.Event.TheVariants as event
use Rattle.netchange_core.specs.Best.{distance}
use Rattle.netchange_core.specs.Next.{exporting as exporting_neighbour, importing as importing_neighbour, recomputed}
use Rattle.netchange_core.specs.World.{World, changed, is_up, neighbour_at}
use Rattle.netchange_core.proofs.Change.{changed_at}
use Rattle.netchange_core.proofs.Goes.{export_goes, import_goes}
use Rattle.routing_domain.specs.Domain.{Domain, IsInOrder, are_linked, neighbour}
use Rattle.routing_domain.specs.Events.{enters}
use Rattle.routing_domain.specs.Steps.{with_router}
use Rattle.routing_domain.proofs.Filters.{exporter}
use Rattle.routing_domain.proofs.Links.{no_neighbour}
use Rattle.routing_domain.proofs.Places.{router_here}
use Rattle.routing_domain.proofs.Recomputed.{changed_other}
use Rattle.routing_domain.proofs.Seen.{changed_seen, recomputed_other, recomputed_seen, told_seen}
use Rattle.routing_domain.proofs.Topologies.{one_read}
use Rattle.domain_routes.specs.Edits.{exporting, importing}
use Rattle.domain_routes.specs.OfDomain.{IsPlanOf}
use Rattle.domain_routes.specs.PlanView.{IsPlan, PeerView, PlanView, peer}
use Rattle.domain_routes.proofs.Places.{cases_place, put_here, put_same, put_there}

-- a value at one place, and elsewhere as before
at_one_place : {A : Type 0} (f : PeerView → A) (g : ℕ → ℕ → A) (p q : PlanView) (u w : ℕ) (now : A) →
    ((x y : ℕ) → x ≡ u → y ≡ w → f (peer q x y) ≡ now) → ((x y : ℕ) → (x ≡ u → y ≡ w → ⊥) → f (peer q x y) ≡ f (peer p x y)) →
    ((x y : ℕ) → x ≡ u → y ≡ w → g x y ≡ now) → ((x y : ℕ) → (x ≡ u → y ≡ w → ⊥) → x < p.size → y < p.size → g x y ≡ f (peer p x y)) →
    (x y : ℕ) → x < p.size → y < p.size → g x y ≡ f (peer q x y)
at_one_place f g p q u w now here there mine others x y short near =
    ⊎_elim
    (λ (at : (x ≡ u) × (y ≡ w)). mine x y at.0 at.1 ∙ sym (here x y at.0 at.1))
    (λ (other : x ≡ u → y ≡ w → ⊥). others x y other short near ∙ sym (there x y other))
    (cases_place u w x y)

pub imports_follow : (d : Domain) (p : PlanView) (u w : ℕ) (f : Arc VerifiedView Global) → IsInOrder d → IsPlanOf d p → IsPlan p → u < d.size → w < d.size → u ≢ w →
    f.value.size ≡ d.size → IsPlanOf (enters d u (event.SetImport w f)) (importing f.value u w p)
imports_follow d p u w f o s plan from to apart fits =
    subst (λ e. IsPlanOf e (importing f.value u w p))
    (sym (ap (λ a. with_router d u a.world)
    (import_goes r.opening r.sessions w r.neighbours f.value (no_neighbour r.opening w (omega (arith, to, o.size u from)) (λ h. apart (sym (h ∙ o.me u from)))) (fits ∙ sym (o.size u from)))))
    (record {
      size = s.size;
      sizes = λ x short. ap (λ a. a.size) (opening x) ∙ s.sizes x short;
      prefixes = λ x short. ap (λ a. a.prefixes) (opening x) ∙ s.prefixes x short;
      linked = λ x y short close. linked x y ∙ s.linked x y short close
          ∙ sym (put_same (λ (c : PeerView). c.linked) p u w new plan.places here there refl x y);
      imports = at_one_place (λ (c : PeerView). c.imports) (λ x y. (neighbour e x y).imports) p (importing f.value u w p) u w (Some f.value)
          (λ x y a b. ap (λ (c : PeerView). c.imports) (put_here p u w new plan.places here there x y a b))
          (λ x y other. ap (λ (c : PeerView). c.imports) (put_there p u w new plan.places here x y other))
          (λ x y a b. ap (λ z. (neighbour e z y).imports) a ∙ ap (λ z. (neighbour e u z).imports) b ∙ mine)
          (λ x y other short close. one_read (λ z. (neighbour_at z.neighbours y).imports) d u now x
          (λ h. recomputed_other (λ n. n.imports) r w (importing_neighbour f.value) y (λ _ _. refl) near (other h)) ∙ s.imports x y short close);
      exports = λ x y short close. exports x y ∙ s.exports x y short close
          ∙ sym (put_same (λ (c : PeerView). c.exports) p u w new plan.places here there refl x y);
    })
  where
    r : World
    r = d.router u

    now : World
    now = (recomputed r (changed r w (importing_neighbour f.value))).world

    e : Domain
    e = with_router d u now

    new : PeerView
    new = record (peer p u w) { imports = Some f.value }

    here : u < p.size
    here = omega (arith, from, s.size)

    there : w < p.size
    there = omega (arith, to, s.size)

    near : w < length r.neighbours
    near = omega (arith, to, (o.tables u from).one_a_node)

    opening : (x : ℕ) → (e.router x).opening ≡ (d.router x).opening
    opening x = one_read (λ z. z.opening) d u now x (λ _. refl)

    linked : (x y : ℕ) → are_linked e x y ≡ are_linked d x y
    linked x y = one_read (λ z. is_up (neighbour_at z.neighbours y)) d u now x (λ _. recomputed_seen is_up r w (importing_neighbour f.value) y (λ _ _. refl) refl)

    exports : (x y : ℕ) → (neighbour e x y).exports ≡ (neighbour d x y).exports
    exports x y = one_read (λ z. (neighbour_at z.neighbours y).exports) d u now x (λ _. recomputed_seen (λ n. n.exports) r w (importing_neighbour f.value) y (λ _ _. refl) refl)

    mine : (neighbour e u w).imports ≡ Some f.value
    mine = ap (λ z. (neighbour_at z.neighbours w).imports) (router_here d u now)
        ∙ told_seen (λ n. n.imports) r w (importing_neighbour f.value) w (λ _ _. refl)
        ∙ ap (λ n. n.imports) (changed_at w (importing_neighbour f.value) r.neighbours near)

pub exports_follow : (d : Domain) (p : PlanView) (u w : ℕ) (f : Arc VerifiedView Global) → IsInOrder d → IsPlanOf d p → IsPlan p → u < d.size → w < d.size → u ≢ w →
    f.value.size ≡ d.size → IsPlanOf (enters d u (event.SetExport w f)) (exporting f.value u w p)
exports_follow d p u w f o s plan from to apart fits =
    subst (λ e. IsPlanOf e (exporting f.value u w p))
    (sym (ap (λ a. with_router d u a.world)
    (export_goes r.opening r.sessions w r.neighbours f.value (no_neighbour r.opening w (omega (arith, to, o.size u from)) (λ h. apart (sym (h ∙ o.me u from)))) (fits ∙ sym (o.size u from)))))
    (record {
      size = s.size;
      sizes = λ x short. ap (λ a. a.size) (opening x) ∙ s.sizes x short;
      prefixes = λ x short. ap (λ a. a.prefixes) (opening x) ∙ s.prefixes x short;
      linked = λ x y short close. linked x y ∙ s.linked x y short close
          ∙ sym (put_same (λ (c : PeerView). c.linked) p u w new plan.places here there refl x y);
      imports = λ x y short close. imports x y ∙ s.imports x y short close
          ∙ sym (put_same (λ (c : PeerView). c.imports) p u w new plan.places here there refl x y);
      exports = at_one_place (λ (c : PeerView). c.exports) (λ x y. (neighbour e x y).exports) p (exporting f.value u w p) u w (Some f.value)
          (λ x y a b. ap (λ (c : PeerView). c.exports) (put_here p u w new plan.places here there x y a b))
          (λ x y other. ap (λ (c : PeerView). c.exports) (put_there p u w new plan.places here x y other))
          (λ x y a b. ap (λ z. (neighbour e z y).exports) a ∙ ap (λ z. (neighbour e u z).exports) b ∙ mine)
          (λ x y other short close. one_read (λ z. (neighbour_at z.neighbours y).exports) d u now x
          (λ h. ap (λ n. n.exports) (changed_other w y (exporting_neighbour r.opening (distance r) f.value) r.neighbours near (other h))) ∙ s.exports x y short close);
    })
  where
    r : World
    r = d.router u

    now : World
    now = exporter r w f.value

    e : Domain
    e = with_router d u now

    new : PeerView
    new = record (peer p u w) { exports = Some f.value }

    here : u < p.size
    here = omega (arith, from, s.size)

    there : w < p.size
    there = omega (arith, to, s.size)

    near : w < length r.neighbours
    near = omega (arith, to, (o.tables u from).one_a_node)

    opening : (x : ℕ) → (e.router x).opening ≡ (d.router x).opening
    opening x = one_read (λ z. z.opening) d u now x (λ _. refl)

    linked : (x y : ℕ) → are_linked e x y ≡ are_linked d x y
    linked x y = one_read (λ z. is_up (neighbour_at z.neighbours y)) d u now x (λ _. changed_seen is_up r w (exporting_neighbour r.opening (distance r) f.value) y refl)

    imports : (x y : ℕ) → (neighbour e x y).imports ≡ (neighbour d x y).imports
    imports x y = one_read (λ z. (neighbour_at z.neighbours y).imports) d u now x (λ _. changed_seen (λ n. n.imports) r w (exporting_neighbour r.opening (distance r) f.value) y refl)

    mine : (neighbour e u w).exports ≡ Some f.value
    mine = ap (λ z. (neighbour_at z.neighbours w).exports) (router_here d u now)
        ∙ ap (λ n. n.exports) (changed_at w (exporting_neighbour r.opening (distance r) f.value) r.neighbours near)
