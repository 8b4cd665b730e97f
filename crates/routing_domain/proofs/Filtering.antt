-- A network stays orderly when a router gets a new filter.
use Rattle.std.proofs.Common.{◌≡◌, ⊎_elim, ℕ, ◌<◌, cond, nat_eq, refl, sym, subst, arith}
use Rattle.std.proofs.Common.{Global}
use Rattle.std.specs.declared.sync.Arc.{Arc}
use Rattle.std.proofs.lemmas.Bool.{cases_eq, cond_both, eqb-true}
use Rattle.filter_verifier.specs.VerifiedView.{VerifiedView}
use Rattle.netchange_core.specs.Next.{Answered, answered, importing, is_no_neighbour, recomputed, refused}
use Rattle.netchange_core.specs.declared.event.Event.TheVariants as event
use Rattle.netchange_core.specs.declared.reply.EventRefusal.TheVariants as refusal
use Rattle.netchange_core.specs.declared.reply.Reply.TheVariants as reply
use Rattle.netchange_core.specs.World.{World, changed}
use Rattle.netchange_core.proofs.Goes.{neighbour_below}
use Rattle.routing_domain.specs.Domain.{Domain, IsMember}
use Rattle.routing_domain.specs.Network.{IsOrderly, Network, enters_there}
use Rattle.routing_domain.specs.Steps.{with_router}
use Rattle.routing_domain.proofs.Filters.{export_keeps, export_member, exporter, import_keeps, import_member}
use Rattle.routing_domain.proofs.Keeping.{KeepsLink, keeps_itself}
use Rattle.routing_domain.proofs.OneEnd.{kept_direction}
use Rattle.routing_domain.proofs.Places.{router_here, router_other, router_same}

-- one router that keeps all its links
router_stays_orderly : (n : Network) (u : ℕ) (s : World) → IsOrderly n → IsMember n.domain.size u s →
    ((b : ℕ) → b < n.domain.size → KeepsLink n.domain.size (n.domain.router u) s b) → IsOrderly (record n { domain = with_router n.domain u s })
router_stays_orderly n u s o member keeps = record {
  members = λ x short. ⊎_elim
      (λ (here : x ≡ u). subst (λ y. IsMember d.size y (e.router y)) (sym here) (subst (IsMember d.size u) (sym (router_here d u s)) member))
      (λ (other : x ≡ u → ⊥). subst (IsMember d.size x) (sym (router_other d u s x other)) (o.members x short)) (cases_eq x u);
  directions = λ a b from to. kept_direction n e.router d.flight n.carries a b
      (record { here = kept a b to; there = kept b a from; flight = refl; carries = refl }) (o.directions a b from to);
}
  where
    d : Domain
    d = n.domain

    e : Domain
    e = with_router d u s

    kept : (a b : ℕ) → b < d.size → KeepsLink d.size (d.router a) (e.router a) b
    kept a b to = ⊎_elim
        (λ (here : a ≡ u). subst (λ y. KeepsLink d.size (d.router y) (e.router y) b) (sym here)
        (subst (λ t. KeepsLink d.size (d.router u) t b) (sym (router_here d u s)) (keeps b to)))
        (λ (other : a ≡ u → ⊥). subst (λ t. KeepsLink d.size (d.router a) t b) (sym (router_other d u s a other)) (keeps_itself d.size (d.router a) b))
        (cases_eq a u)

pub importing_orderly : (n : Network) (u w : ℕ) (f : Arc VerifiedView Global) → IsOrderly n → u < n.domain.size → IsOrderly (enters_there n u (event.SetImport w f))
importing_orderly n u w f o short =
    let d = n.domain in
    let r = d.router u in
    let m = o.members u short in
    let P : Answered → Type 0 = λ a. IsOrderly (record n { domain = with_router d u a.world }) in
    let same : IsOrderly (record n { domain = with_router d u r }) = subst (λ e. IsOrderly (record n { domain = e })) (sym (router_same d u)) o in
    let after = recomputed r (changed r w (importing f.value)) in
    cond_both (is_no_neighbour r.opening w) (refused r refusal.NoNode) (cond (nat_eq f.value.size r.opening.size) after (refused r refusal.OtherSize)) P (λ _. same)
    (λ is. cond_both (nat_eq f.value.size r.opening.size) after (refused r refusal.OtherSize) P
    (λ fits.
    let to : w < d.size = omega (arith, m.size, neighbour_below r.opening w is) in
    router_stays_orderly n u after.world o
    (import_member d.size u w r f.value m to (eqb-true f.value.size r.opening.size fits))
    (λ b near. import_keeps d.size u w b r f.value m to near))
    (λ _. same))

pub exporting_orderly : (n : Network) (u w : ℕ) (f : Arc VerifiedView Global) → IsOrderly n → u < n.domain.size → IsOrderly (enters_there n u (event.SetExport w f))
exporting_orderly n u w f o short =
    let d = n.domain in
    let r = d.router u in
    let m = o.members u short in
    let P : Answered → Type 0 = λ a. IsOrderly (record n { domain = with_router d u a.world }) in
    let same : IsOrderly (record n { domain = with_router d u r }) = subst (λ e. IsOrderly (record n { domain = e })) (sym (router_same d u)) o in
    let after = answered (exporter r w f.value) (reply.Done 0) in
    cond_both (is_no_neighbour r.opening w) (refused r refusal.NoNode) (cond (nat_eq f.value.size r.opening.size) after (refused r refusal.OtherSize)) P (λ _. same)
    (λ is. cond_both (nat_eq f.value.size r.opening.size) after (refused r refusal.OtherSize) P
    (λ fits.
    let to : w < d.size = omega (arith, m.size, neighbour_below r.opening w is) in
    router_stays_orderly n u after.world o
    (export_member d.size u w r f.value m to (eqb-true f.value.size r.opening.size fits))
    (λ b near. export_keeps d.size u w b r f.value m to))
    (λ _. same))
