-- The nearest neighbour: the definition has the properties of the relation, and whatever has them is what is defined.
use Rattle.std.proofs.Common.{◌≡◌, ⊎_elim, ℕ, ◌+◌, ◌<◌, ◌≤◌, zero, suc, min, cond, nat_lt, List, [], ◌∷◌, length, slice_index}
use Rattle.std.proofs.Common.{refl, ap, sym, subst, ◌∙◌, arith, le_refl, eq-eqb, ne_eqb, ltb-true, ltb-false}
use Rattle.std.proofs.lemmas.Bool.{cases_eq, cases_order, cond_both}
use Rattle.netchange_core.specs.declared.best_route.BestRoute.{BestRoute}
use Rattle.netchange_core.specs.declared.reply.Via.{Via}
use Rattle.netchange_core.specs.declared.reply.Via.TheVariants.{Local, Node, Nowhere}
use Rattle.netchange_core.specs.Best.{least, first_at, nearest, route_of}
use Rattle.netchange_core.specs.Leading.{Leads, LeadsBy, Through, Without}

least_bound : (bound : ℕ) (xs : List ℕ) → least bound xs ≤ bound
least_bound bound [] = le_refl bound
least_bound bound (x ∷ xs) = omega (arith, least_bound bound xs)

least_below : (bound : ℕ) (xs : List ℕ) (k : ℕ) → k < length xs → least bound xs ≤ slice_index xs k
least_below bound [] k h = absurd (omega arith)
least_below bound (x ∷ xs) zero h = omega arith
least_below bound (x ∷ xs) (suc k) h =
    let short : k < length xs = omega arith in
    omega (arith, least_below bound xs k short)

-- where a number stands first in a list
record Found (x : ℕ) (xs : List ℕ) : Type 0 where
  within : first_at x xs < length xs
  there : slice_index xs (first_at x xs) ≡ x

first_here : (x y : ℕ) (ys : List ℕ) → y ≡ x → first_at x (y ∷ ys) ≡ 0
first_here x y ys e = ap (λ b. cond b 0 (suc (first_at x ys))) (eq-eqb y x e)

first_later : (x y : ℕ) (ys : List ℕ) → (y ≡ x → ⊥) → first_at x (y ∷ ys) ≡ suc (first_at x ys)
first_later x y ys e = ap (λ b. cond b 0 (suc (first_at x ys))) (ne_eqb y x e)

found_here : (x y : ℕ) (ys : List ℕ) → y ≡ x → Found x (y ∷ ys)
found_here x y ys e = record {
  within = omega (arith, first_here x y ys e);
  there = ap (λ n. slice_index (y ∷ ys) n) (first_here x y ys e) ∙ e;
}

found_later : (x y : ℕ) (ys : List ℕ) → (y ≡ x → ⊥) → Found x ys → Found x (y ∷ ys)
found_later x y ys e f = record {
  within = omega (arith, first_later x y ys e, f.within);
  there = ap (λ n. slice_index (y ∷ ys) n) (first_later x y ys e) ∙ f.there;
}

found_least : (bound : ℕ) (xs : List ℕ) (d : ℕ) → d ≡ least bound xs → d < bound → Found d xs
found_least bound [] d e h = absurd (omega arith)
found_least bound (x ∷ xs) d e h =
    ⊎_elim (λ same. found_here d x xs same)
    (λ other. found_later d x xs other (found_least bound xs d (least_of_rest bound x xs d e other) h)) (cases_eq x d)
  where
    least_of_rest : (bound x : ℕ) (xs : List ℕ) (d : ℕ) → d ≡ min x (least bound xs) → (x ≡ d → ⊥) → d ≡ least bound xs
    least_of_rest bound x xs d e other = omega arith

before_first : (x : ℕ) (xs : List ℕ) (k : ℕ) → k < first_at x xs → slice_index xs k ≡ x → ⊥
before_first x [] k h e = omega arith
before_first x (y ∷ ys) zero h e = omega (arith, first_here x y ys e)
before_first x (y ∷ ys) (suc k) h e =
    ⊎_elim (λ same. omega (arith, first_here x y ys same))
    (λ other. before_first x ys k (shorter x y ys k h other) e) (cases_eq y x)
  where
    shorter : (x y : ℕ) (ys : List ℕ) (k : ℕ) → suc k < first_at x (y ∷ ys) → (y ≡ x → ⊥) → k < first_at x ys
    shorter x y ys k h other = omega (arith, first_later x y ys other)

-- the least distance is before the size
nearest_through : (size : ℕ) (xs : List ℕ) → least size xs + 1 < size →
    Through size (length xs) xs (least size xs + 1) (first_at (least size xs) xs)
nearest_through size xs h =
    let d = least size xs in
    let f : Found d xs = found_least size xs d refl (omega arith) in
    record {
      is_neighbour = f.within;
      one_more = ap (λ n. n + 1) (sym f.there);
      in_reach = h;
      least = λ k short. omega (arith, least_below size xs k short);
      first = λ k short.
          let within : k < length xs = omega (arith, f.within) in
          let other : slice_index xs k ≡ d → ⊥ = before_first d xs k short in
          omega (arith, least_below size xs k within, other);
    }

nearest_without : (size : ℕ) (xs : List ℕ) → size ≤ least size xs + 1 → Without size (length xs) xs size
nearest_without size xs h = record {
  out_of_reach = refl;
  none = λ k short. omega (arith, least_below size xs k short);
}

-- the definition has the properties
pub nearest_leads : (size : ℕ) (xs : List ℕ) → Leads size (length xs) xs (nearest size xs)
nearest_leads size xs =
    let d = least size xs in
    cond_both (nat_lt (d + 1) size) (route_of (d + 1) (Node (first_at d xs))) (route_of size Nowhere)
    (λ r. Leads size (length xs) xs r)
    (λ t. nearest_through size xs (ltb-true (d + 1) size t))
    (λ t. nearest_without size xs (ltb-false (d + 1) size t))

-- two routes that have the properties are one
same_hop : (size count : ℕ) (xs : List ℕ) (d e h k : ℕ) → Through size count xs d h → Through size count xs e k → h ≡ k
same_hop size count xs d e h k p q =
    ⊎_elim (λ same. same)
    (⊎_elim
    (λ before. absurd (omega (arith, p.one_more, q.one_more, q.first h before, p.least k q.is_neighbour)))
    (λ after. absurd (omega (arith, p.one_more, q.one_more, p.first k after, q.least h p.is_neighbour))))
    (cases_order h k)

same_by : (size count : ℕ) (xs : List ℕ) (d e : ℕ) (v w : Via) → LeadsBy size count xs d v → LeadsBy size count xs e w →
    (d ≡ e) × (v ≡ w)
same_by size count xs d e Local w p q = absurd p
same_by size count xs d e (Node h) Local p q = absurd q
same_by size count xs d e (Node h) (Node k) p q = (
  omega (arith, p.one_more, q.one_more, p.least k q.is_neighbour, q.least h p.is_neighbour),
  ap (λ n. Node n) (same_hop size count xs d e h k p q),
)
same_by size count xs d e (Node h) Nowhere p q =
    absurd (omega (arith, p.one_more, p.in_reach, q.none h p.is_neighbour))
same_by size count xs d e Nowhere Local p q = absurd q
same_by size count xs d e Nowhere (Node k) p q =
    absurd (omega (arith, q.one_more, q.in_reach, p.none k q.is_neighbour))
same_by size count xs d e Nowhere Nowhere p q = (p.out_of_reach ∙ sym q.out_of_reach, refl)

pub leads_alone : (size count : ℕ) (xs : List ℕ) (r s : BestRoute) → Leads size count xs r → Leads size count xs s → r ≡ s
leads_alone size count xs r s p q =
    let e = same_by size count xs r.dist s.dist r.via s.via p q in
    λ i. route_of (e.0 i) (e.1 i)

-- whatever has the properties is what is defined
pub leads_nearest : (size : ℕ) (xs : List ℕ) (r : BestRoute) → Leads size (length xs) xs r → r ≡ nearest size xs
leads_nearest size xs r p = leads_alone size (length xs) xs r (nearest size xs) p (nearest_leads size xs)

-- a scan: before the first neighbour, and after one more
pub none_before : (size : ℕ) (xs : List ℕ) → Without size 0 xs size
none_before size xs = record { out_of_reach = refl; none = λ k h. absurd (omega arith) }

pub leads_next : (size hop : ℕ) (xs : List ℕ) (near : ℕ) (r : BestRoute) → slice_index xs hop ≡ near → r.dist ≤ size →
    near + 1 < r.dist → Leads size hop xs r → Through size (hop + 1) xs (near + 1) hop
leads_next size hop xs near r e bound closer p = record {
  is_neighbour = omega arith;
  one_more = ap (λ n. n + 1) (sym e);
  in_reach = omega arith;
  least = λ k h.
      ⊎_elim (λ (same : k ≡ hop). let f = ap (λ n. slice_index xs n) same in omega (arith, f, e))
      (λ (other : k ≡ hop → ⊥). omega (arith, at_least size hop xs r.dist r.via k p (omega arith))) (cases_eq k hop);
  first = λ k h. omega (arith, at_least size hop xs r.dist r.via k p h);
}
  where
    at_least : (size hop : ℕ) (xs : List ℕ) (d : ℕ) (v : Via) (k : ℕ) → LeadsBy size hop xs d v → k < hop → d ≤ slice_index xs k + 1
    at_least size hop xs d Local k p h = absurd p
    at_least size hop xs d (Node j) k p h = p.least k h
    at_least size hop xs d Nowhere k p h = omega (arith, p.out_of_reach, p.none k h)

leads_on_by : (size hop : ℕ) (xs : List ℕ) (near d : ℕ) (v : Via) → slice_index xs hop ≡ near → d ≤ near + 1 →
    LeadsBy size hop xs d v → LeadsBy size (hop + 1) xs d v
leads_on_by size hop xs near d Local e far p = p
leads_on_by size hop xs near d (Node j) e far p = record {
  is_neighbour = omega (arith, p.is_neighbour);
  one_more = p.one_more;
  in_reach = p.in_reach;
  least = λ k h.
      ⊎_elim (λ (same : k ≡ hop). let f = ap (λ n. slice_index xs n) same in omega (arith, f, e))
      (λ (other : k ≡ hop → ⊥). p.least k (omega arith)) (cases_eq k hop);
  first = p.first;
}
leads_on_by size hop xs near d Nowhere e far p = record {
  out_of_reach = p.out_of_reach;
  none = λ k h.
      ⊎_elim (λ (same : k ≡ hop). let f = ap (λ n. slice_index xs n) same in omega (arith, f, e, p.out_of_reach))
      (λ (other : k ≡ hop → ⊥). p.none k (omega arith)) (cases_eq k hop);
}

pub leads_on : (size hop : ℕ) (xs : List ℕ) (near : ℕ) (r : BestRoute) → slice_index xs hop ≡ near → r.dist ≤ near + 1 →
    Leads size hop xs r → Leads size (hop + 1) xs r
leads_on size hop xs near r e far p = leads_on_by size hop xs near r.dist r.via e far p

-- no route is longer than the size
by_within : (size count : ℕ) (xs : List ℕ) (d : ℕ) (v : Via) → LeadsBy size count xs d v → d ≤ size
by_within size count xs d Local p = absurd p
by_within size count xs d (Node h) p = omega (arith, p.in_reach)
by_within size count xs d Nowhere p = omega (arith, p.out_of_reach)

pub leads_within : (size count : ℕ) (xs : List ℕ) (r : BestRoute) → Leads size count xs r → r.dist ≤ size
leads_within size count xs r p = by_within size count xs r.dist r.via p

-- what is known of a route that is the nearest, by its next hop
leads_since : (size : ℕ) (xs : List ℕ) (r : BestRoute) → r ≡ nearest size xs → Leads size (length xs) xs r
leads_since size xs r e = subst (λ s. Leads size (length xs) xs s) (sym e) (nearest_leads size xs)

pub nearest_node : (size : ℕ) (xs : List ℕ) (r : BestRoute) (h : ℕ) → r ≡ nearest size xs → r.via ≡ Node h →
    Through size (length xs) xs r.dist h
nearest_node size xs r h e v = subst (λ w. LeadsBy size (length xs) xs r.dist w) v (leads_since size xs r e)

pub nearest_nowhere : (size : ℕ) (xs : List ℕ) (r : BestRoute) → r ≡ nearest size xs → r.via ≡ Nowhere →
    Without size (length xs) xs r.dist
nearest_nowhere size xs r e v = subst (λ w. LeadsBy size (length xs) xs r.dist w) v (leads_since size xs r e)

pub nearest_not_local : (size : ℕ) (xs : List ℕ) (r : BestRoute) → r ≡ nearest size xs → r.via ≡ Local → ⊥
nearest_not_local size xs r e v = subst (λ w. LeadsBy size (length xs) xs r.dist w) v (leads_since size xs r e)

pub nearest_within : (size : ℕ) (xs : List ℕ) → (nearest size xs).dist ≤ size
nearest_within size xs = leads_within size (length xs) xs (nearest size xs) (nearest_leads size xs)
