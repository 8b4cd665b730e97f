-- What is out of reach counts up to a bound that import filters set, and is known to be so after as many phases.
use mathlib.Core.Logic.{inl, inr}
use Rattle.std.proofs.Common.{◌≡◌, ◌⊎◌, ⊎_elim, ℕ, ◌<◌, ◌≤◌, suc, true, false, sym, ap, subst, ◌∙◌, arith}
use Rattle.std.specs.Prelude.{◌≢◌}
use Rattle.std.proofs.lemmas.Bool.{cases_Bool, cases_eq, cases_lt}
use Rattle.netchange_core.specs.declared.reply.Via.{Via}
use Rattle.netchange_core.specs.declared.reply.Via.TheVariants.{Local, Node, Nowhere}
use Rattle.netchange_core.specs.Best.{best, distance}
use Rattle.netchange_core.specs.FilteredDistance.{filtered_distance}
use Rattle.netchange_core.specs.Leading.{LeadsBy}
use Rattle.netchange_core.specs.World.{nobody}
use Rattle.routing_domain.specs.Domain.{Domain, IsInOrder, IsQuiet, KeepsLinksAndFilters, are_linked, exported, imported, neighbour, topology}
use Rattle.routing_domain.specs.Phases.{CountsUpTo, Phases}
use Rattle.routing_domain.specs.Rest.{IsRest, LeadsThrough}
use Rattle.routing_domain.proofs.Emptied.{Settles, all_told_at_first, ends_at, ends_rest, quiet_within}
use Rattle.routing_domain.proofs.Increasing.{filtered_farther}
use Rattle.routing_domain.proofs.Moving.{heard}
use Rattle.routing_domain.proofs.Nearing.{IsHeard, distance_right, gives}
use Rattle.routing_domain.proofs.Order.{wide}
use Rattle.routing_domain.proofs.Phased.{IsPhased, phased}
use Rattle.routing_domain.proofs.Quiet.{given, leads, size_of_down}
use Rattle.routing_domain.proofs.Turned.{AreTold, are_heard, phases_keep}

-- of another domain with the same links and filters
pub counts_on : (k : ℕ) (d e : Domain) (v : ℕ) (a : ℕ → ℕ) → KeepsLinksAndFilters d e → CountsUpTo k d v a → CountsUpTo k e v a
counts_on k d e v a kept c = record {
  routes = λ u short.
      ⊎_elim (λ (few : a u ≤ k). inl few) (λ (far : a u ≡ d.size). inr (far ∙ sym kept.size)) (c.routes u (omega (arith, short, kept.size)));
  limits = λ u w short near linked far.
      ⊎_elim
      (λ (close : a w < k). inl close)
      (λ (each : (x : ℕ) → x ≤ d.size → (imported d u w v x < k) ⊎ (imported d u w v x ≡ d.size)). inr (λ x most.
      subst (λ y. (y < k) ⊎ (y ≡ e.size)) (λ i. sym (same u w x) i)
      (⊎_elim (λ (less : imported d u w v x < k). inl less) (λ (is : imported d u w v x ≡ d.size). inr (is ∙ sym kept.size))
      (each x (omega (arith, most, kept.size))))))
      (c.limits u w (omega (arith, short, kept.size)) (omega (arith, near, kept.size)) (sym (kept.linked u w) ∙ linked) (far ∙ kept.size));
}
  where
    same : (u w x : ℕ) → imported e u w v x ≡ imported d u w v x
    same u w x = λ i. filtered_distance (kept.openings u i) (kept.imports u w i) v x

-- a node that is out of reach and no nearer than the bound has no route
no_route : (d : Domain) → IsInOrder d → (v : ℕ) → (a : ℕ → ℕ) → IsRest (topology d v) v a → (k : ℕ) → IsHeard d a v k → CountsUpTo k d v a →
    (u : ℕ) → u < d.size → u ≢ v → a u ≡ d.size → (dist : ℕ) (via : Via) → suc k ≤ dist → LeadsBy d.size d.size (given d u v) dist via → dist ≡ d.size
no_route d o v a r k told c u short other far dist Local past l = absurd l
no_route d o v a r k told c u short other far dist (Node w) past l = absurd (⊎_elim up down (cases_Bool (are_linked d u w)))
  where
    down : are_linked d u w ≡ false → ⊥
    down h = omega (arith, l.one_more, l.in_reach, size_of_down d o u w v short l.is_neighbour h)

    up : are_linked d u w ≡ true → ⊥
    up h =
        let gave = gives d o u w v short l.is_neighbour h in
        let most : heard d w u v ≤ d.size = ((o.tables u short).each w nobody (omega (arith, l.is_neighbour, wide d o u short))).reachable v in
        ⊎_elim
        (λ (close : a w < k).
        ⊎_elim
        (λ (is : heard d w u v ≡ exported d w u v (a w)).
        omega (arith, l.one_more, l.in_reach, gave, ap (imported d u w v) is, far, r.least u short other w l.is_neighbour h))
        (λ (late : (k ≤ a w) × (k ≤ heard d w u v)). omega (arith, close, late.0))
        (told w u l.is_neighbour short (o.both_ways u w short l.is_neighbour h)))
        (λ (each : (x : ℕ) → x ≤ d.size → (imported d u w v x < k) ⊎ (imported d u w v x ≡ d.size)).
        ⊎_elim
        (λ (less : imported d u w v (heard d w u v) < k). omega (arith, less, gave, l.one_more, past))
        (λ (is : imported d u w v (heard d w u v) ≡ d.size). omega (arith, is, gave, l.one_more, l.in_reach))
        (each (heard d w u v) most))
        (c.limits u w short l.is_neighbour h far)
no_route d o v a r k told c u short other far dist Nowhere past l = l.out_of_reach

-- so each distance is that of rest, once what was told is right below the bound
pub counted : (d : Domain) (v : ℕ) (a : ℕ → ℕ) (k : ℕ) → AreTold d v a k → CountsUpTo k d v a → (u : ℕ) → u < d.size → distance (d.router u) v ≡ a u
counted d v a k t c u short =
    ⊎_elim
    (λ (same : distance (d.router u) v ≡ a u). same)
    (λ (past : (suc k ≤ a u) × (suc k ≤ distance (d.router u) v)).
    ⊎_elim
    (λ (few : a u ≤ k). absurd (omega (arith, past.0, few)))
    (λ (far : a u ≡ d.size). unreached far (past.1))
    (c.routes u short))
    (distance_right d t.order v t.there a t.rest k (are_heard d v a k t) u short)
  where
    unreached : a u ≡ d.size → suc k ≤ distance (d.router u) v → distance (d.router u) v ≡ a u
    unreached far past = ⊎_elim
        (λ (own : u ≡ v). absurd (omega (arith, far, ap a own, t.rest.own, short)))
        (λ (other : u ≡ v → ⊥).
        no_route d t.order v a t.rest k (are_heard d v a k t) c u short other far (distance (d.router u) v) (best (d.router u) v).via past
        (leads d t.order u v short other)
        ∙ sym far)
        (cases_eq u v)

-- after as many phases
pub counted_after : (j : ℕ) (d e : Domain) (v : ℕ) (a : ℕ → ℕ) → IsInOrder d → Phases j d e → v < d.size → IsRest (topology d v) v a → CountsUpTo j d v a →
    (u : ℕ) → u < d.size → distance (e.router u) v ≡ a u
counted_after j d e v a o p there r c u short =
    let t : IsPhased j d e v a = phased j d e v a o p there r in
    counted e v a j t.told (counts_on j d e v a (phases_keep j d e p) c) u (omega (arith, short, t.size))

-- and after one more nothing is told
pub counted_quiet : (j : ℕ) (d e : Domain) → IsInOrder d →
    ((v : ℕ) → v < d.size → (a : ℕ → ℕ) → IsRest (topology d v) v a → CountsUpTo j d v a) → Phases (suc j) d e → IsQuiet e
counted_quiet j d e o c p = quiet_within j d e (ends_at d o) 0 j o (all_told_at_first d o) (omega arith) settles p
  where
    settles : Settles d (ends_at d o) j
    settles b kept ob all v x there short =
        let below : v < d.size = omega (arith, there, kept.size) in
        counted b v (ends_at d o v) j (all v there) (counts_on j d b v (ends_at d o v) kept (c v below (ends_at d o v) (ends_rest d o v below))) x short

-- where the import filter at each end of each link lets through nothing beyond a bound, the distances count to one more
pub limited_counts : (bound : ℕ) (d : Domain) (v : ℕ) → IsInOrder d →
    ((u w x : ℕ) → u < d.size → w < d.size → are_linked d u w ≡ true → x ≤ d.size → (imported d u w v x ≤ bound) ⊎ (imported d u w v x ≡ d.size)) →
    (a : ℕ → ℕ) → IsRest (topology d v) v a → CountsUpTo (suc bound) d v a
limited_counts bound d v o limited a r = record {
  routes = λ u short. ⊎_elim (λ (own : u ≡ v). inl (omega (arith, ap a own, r.own))) (λ (other : u ≡ v → ⊥). route u short other) (cases_eq u v);
  limits = λ u w short near linked far. inr (λ x most.
      ⊎_elim (λ (few : imported d u w v x ≤ bound). inl (omega (arith, few))) (λ (is : imported d u w v x ≡ d.size). inr is)
      (limited u w x short near linked most));
}
  where
    told : (u w : ℕ) → w < d.size → exported d w u v (a w) ≤ d.size
    told u w near = omega (
      arith,
      o.size w near,
      (filtered_farther (d.router w).opening (neighbour d w u).exports v (a w) (omega (arith, o.size w near, r.bounded w near))).within,
    )

    led : (u : ℕ) → u < d.size → (w : ℕ) × LeadsThrough (topology d v) v a u w → (a u ≤ suc bound) ⊎ (a u ≡ d.size)
    led u short l =
        let through : LeadsThrough (topology d v) v a u (l.0) = l.1 in
        ⊎_elim
        (λ (few : imported d u (l.0) v (exported d (l.0) u v (a (l.0))) ≤ bound). inl (omega (arith, few, through.one_more)))
        (λ (is : imported d u (l.0) v (exported d (l.0) u v (a (l.0))) ≡ d.size). absurd (omega (arith, is, through.one_more, through.in_reach)))
        (limited u (l.0) (exported d (l.0) u v (a (l.0))) short through.member through.linked (told u (l.0) through.member))

    route : (u : ℕ) → u < d.size → u ≢ v → (a u ≤ suc bound) ⊎ (a u ≡ d.size)
    route u short other = ⊎_elim
        (λ (reach : a u < d.size). led u short (r.led u short other reach))
        (λ (out : d.size ≤ a u). inr (omega (arith, out, r.bounded u short)))
        (cases_lt (a u) d.size)
