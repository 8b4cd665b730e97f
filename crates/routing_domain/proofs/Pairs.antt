-- Two routers that change their link, and keep all others, keep a domain in order.
use Rattle.std.proofs.Common.{◌≡◌, ⊎_elim, inl, ℕ, ◌<◌, sym, subst, ◌∙◌}
use Rattle.std.proofs.lemmas.Bool.{cases_eq}
use Rattle.netchange_core.specs.World.{World}
use Rattle.routing_domain.specs.Domain.{Domain, IsInOrder, IsMember}
use Rattle.routing_domain.proofs.Keeping.{IsAfter, KeepsLink, keeps_itself, links_keep_order, member_of}
use Rattle.routing_domain.proofs.Places.{IsOther}

-- the links that are kept, at one end
kept_end : (d e : Domain) (u w : ℕ) (s t : World) → e.router u ≡ s → e.router w ≡ t →
    ((x : ℕ) → (x ≡ u → ⊥) → (x ≡ w → ⊥) → e.router x ≡ d.router x) →
    ((b : ℕ) → b < d.size → (b ≡ w → ⊥) → KeepsLink d.size (d.router u) s b) → ((b : ℕ) → b < d.size → (b ≡ u → ⊥) → KeepsLink d.size (d.router w) t b) →
    (a b : ℕ) → b < d.size → IsOther u w a b → IsOther w u a b → KeepsLink d.size (d.router a) (e.router a) b
kept_end d e u w s t one other third keeps_u keeps_w a b to i j =
    ⊎_elim
    (λ here. subst (λ y. KeepsLink d.size (d.router y) (e.router y) b) (sym here)
    (subst (λ x. KeepsLink d.size (d.router u) x b) (sym one) (keeps_u b to (i.other here))))
    (λ unlike. ⊎_elim
    (λ here. subst (λ y. KeepsLink d.size (d.router y) (e.router y) b) (sym here)
    (subst (λ x. KeepsLink d.size (d.router w) x b) (sym other) (keeps_w b to (j.other here))))
    (λ apart. subst (λ x. KeepsLink d.size (d.router a) x b) (sym (third a unlike apart)) (keeps_itself d.size (d.router a) b))
    (cases_eq a w))
    (cases_eq a u)

pub two_routers_keep_order : (d e : Domain) (u w : ℕ) (s t : World) → IsInOrder d → u < d.size → w < d.size → (u ≡ w → ⊥) →
    e.router u ≡ s → e.router w ≡ t → ((x : ℕ) → (x ≡ u → ⊥) → (x ≡ w → ⊥) → e.router x ≡ d.router x) →
    IsMember d.size u s → IsMember d.size w t →
    ((b : ℕ) → b < d.size → (b ≡ w → ⊥) → KeepsLink d.size (d.router u) s b) → ((b : ℕ) → b < d.size → (b ≡ u → ⊥) → KeepsLink d.size (d.router w) t b) →
    ((a b : ℕ) → a < d.size → b < d.size → IsOther u w a b → IsOther w u a b → e.flight a b ≡ d.flight a b) →
    IsAfter d (record { size = d.size; router = e.router; flight = e.flight }) u w →
    IsAfter d (record { size = d.size; router = e.router; flight = e.flight }) w u →
    IsInOrder (record { size = d.size; router = e.router; flight = e.flight })
two_routers_keep_order d e u w s t o from_u from_w apart one other third member_u member_w keeps_u keeps_w flights after_u after_w =
    links_keep_order d e.router e.flight o members after
  where
    members : (x : ℕ) → x < d.size → IsMember d.size x (e.router x)
    members x short =
        ⊎_elim (λ here. subst (λ y. IsMember d.size y (e.router y)) (sym here) (subst (IsMember d.size u) (sym one) member_u))
        (λ unlike. ⊎_elim (λ here. subst (λ y. IsMember d.size y (e.router y)) (sym here) (subst (IsMember d.size w) (sym other) member_w))
        (λ neither. subst (IsMember d.size x) (sym (third x unlike neither)) (member_of d x o short)) (cases_eq x w))
        (cases_eq x u)

    f : Domain
    f = record { size = d.size; router = e.router; flight = e.flight }

    elsewhere : (a b : ℕ) → a < d.size → b < d.size → IsOther u w a b → IsOther w u a b → IsAfter d f a b
    elsewhere a b from to i j = inl (record {
      here = kept_end d e u w s t one other third keeps_u keeps_w a b to i j;
      there = kept_end d e u w s t one other third keeps_u keeps_w b a from (record { other = λ p q. j.other q p }) (record { other = λ p q. i.other q p });
      flight = flights a b from to i j;
    })

    after : (a b : ℕ) → a < d.size → b < d.size → IsAfter d f a b
    after a b from to =
        ⊎_elim
        (λ here. ⊎_elim
        (λ there. subst (λ y. IsAfter d f y b) (sym here) (subst (λ y. IsAfter d f u y) (sym there) after_u))
        (λ unlike. elsewhere a b from to (record { other = λ p q. unlike q }) (record { other = λ p q. apart (sym here ∙ p) }))
        (cases_eq b w))
        (λ far. ⊎_elim
        (λ here. ⊎_elim
        (λ there. subst (λ y. IsAfter d f y b) (sym here) (subst (λ y. IsAfter d f w y) (sym there) after_w))
        (λ unlike. elsewhere a b from to (record { other = λ p q. far p }) (record { other = λ p q. unlike q }))
        (cases_eq b u))
        (λ neither. elsewhere a b from to (record { other = λ p q. far p }) (record { other = λ p q. neither p }))
        (cases_eq a w))
        (cases_eq a u)
