-- The best route after one neighbour's distance changed.
use Rattle.std.proofs.Common.{◌≡◌, ◌⊎◌, ⊎_elim, ℕ, ◌+◌, ◌<◌, ◌≤◌, List, length, slice_index, slice_set, length-set}
use Rattle.std.proofs.Common.{subst, get_or-set_same, get_or-set_other, ap, sym, ◌∙◌, arith}
use Rattle.std.proofs.lemmas.Bool.{cases_eq}
use Rattle.netchange_core.specs.declared.best_route.BestRoute.{BestRoute}
use Rattle.netchange_core.specs.declared.reply.Via.TheVariants.{Node, Nowhere}
use Rattle.netchange_core.specs.Best.{best_by, nearest, route_of}
use Rattle.netchange_core.specs.Leading.{LeadsBy, Through, Without}
use Rattle.netchange_core.specs.OpeningView.{OpeningView}
use Rattle.netchange_core.proofs.Nearest.{leads_nearest, nearest_node, nearest_nowhere}
use Rattle.netchange_core.proofs.Opened.{other_route, own_route}

-- what holds of the element that was replaced, and of each other one
each_after : (P : ℕ → ℕ → Type 0) (xs : List ℕ) (w x : ℕ) → w < length xs → P w x →
    ((k : ℕ) → (k ≡ w → ⊥) → P k (slice_index xs k)) → (k : ℕ) → P k (slice_index (slice_set xs w x) k)
each_after P xs w x short here there k =
    ⊎_elim (λ same. now P xs w x short here k same)
    (λ other. subst (λ n. P k n) (sym (get_or-set_other xs w k x 0 other)) (there k other)) (cases_eq k w)
  where
    now : (P : ℕ → ℕ → Type 0) (xs : List ℕ) (w x : ℕ) → w < length xs → P w x → (k : ℕ) → k ≡ w →
        P k (slice_index (slice_set xs w x) k)
    now P xs w x short here k same =
        subst (λ n. P n (slice_index (slice_set xs w x) n)) (sym same)
        (subst (λ n. P w n) (sym (get_or-set_same xs w x 0 short)) here)

-- the neighbour leads now: it came nearer than the one that led, or as near and is not behind it in number
pub leads_now : (size count : ℕ) (xs : List ℕ) (w x d h : ℕ) → w < count → w < length xs →
    ((x + 1 < d) ⊎ ((x + 1 ≡ d) × (w ≤ h))) → Through size count xs d h →
    Through size count (slice_set xs w x) (x + 1) w
leads_now size count xs w x d h within short closer p =
    let near : x + 1 ≤ d = ⊎_elim (λ (a : x + 1 < d). omega arith) (λ (b : (x + 1 ≡ d) × (w ≤ h)). omega arith) closer in
    record {
      is_neighbour = within;
      one_more = ap (λ n. n + 1) (sym (get_or-set_same xs w x 0 short));
      in_reach = omega (arith, p.in_reach);
      least = each_after (λ k n. k < count → x + 1 ≤ n + 1) xs w x short (λ _. omega arith)
          (λ k other below. omega (arith, p.least k below));
      first = each_after (λ k n. k < w → x + 1 < n + 1) xs w x short (λ below. omega arith)
          (λ k other below. nearer size count xs w x d h within closer p k below);
    }
  where
    nearer : (size count : ℕ) (xs : List ℕ) (w x d h : ℕ) → w < count →
        ((x + 1 < d) ⊎ ((x + 1 ≡ d) × (w ≤ h))) → Through size count xs d h → (k : ℕ) → k < w →
        x + 1 < slice_index xs k + 1
    nearer size count xs w x d h within closer p k below =
        ⊎_elim (λ (a : x + 1 < d). omega (arith, p.least k (omega arith)))
        (λ (b : (x + 1 ≡ d) × (w ≤ h)). omega (arith, p.first k (omega arith))) closer

pub leads_first : (size count : ℕ) (xs : List ℕ) (w x d : ℕ) → w < count → w < length xs → x + 1 < d →
    Without size count xs d → Through size count (slice_set xs w x) (x + 1) w
leads_first size count xs w x d within short closer p = record {
  is_neighbour = within;
  one_more = ap (λ n. n + 1) (sym (get_or-set_same xs w x 0 short));
  in_reach = omega (arith, p.out_of_reach);
  least = each_after (λ k n. k < count → x + 1 ≤ n + 1) xs w x short (λ _. omega arith)
      (λ k other below. omega (arith, p.out_of_reach, p.none k below));
  first = each_after (λ k n. k < w → x + 1 < n + 1) xs w x short (λ below. omega arith)
      (λ k other below. omega (arith, p.out_of_reach, p.none k (omega arith)));
}

-- another one still leads
pub leads_still : (size count : ℕ) (xs : List ℕ) (w x d h : ℕ) → w < length xs → (w ≡ h → ⊥) →
    ((d < x + 1) ⊎ ((d ≡ x + 1) × (h < w))) → Through size count xs d h → Through size count (slice_set xs w x) d h
leads_still size count xs w x d h short other farther p =
    let far : d ≤ x + 1 = ⊎_elim (λ (a : d < x + 1). omega arith) (λ (b : (d ≡ x + 1) × (h < w)). omega arith) farther in
    record {
      is_neighbour = p.is_neighbour;
      one_more = p.one_more ∙ ap (λ n. n + 1) (sym (get_or-set_other xs w h x 0 (λ e. other (sym e))));
      in_reach = p.in_reach;
      least = each_after (λ k n. k < count → d ≤ n + 1) xs w x short (λ _. far) (λ k _. p.least k);
      first = each_after (λ k n. k < h → d < n + 1) xs w x short
          (λ below. ⊎_elim (λ (a : d < x + 1). a) (λ (b : (d ≡ x + 1) × (h < w)). absurd (omega arith)) farther)
          (λ k _. p.first k);
    }

pub none_still : (size count : ℕ) (xs : List ℕ) (w x d : ℕ) → w < length xs → d ≤ x + 1 →
    Without size count xs d → Without size count (slice_set xs w x) d
none_still size count xs w x d short far p = record {
  out_of_reach = p.out_of_reach;
  none = each_after (λ k n. k < count → size ≤ n + 1) xs w x short (λ _. omega (arith, p.out_of_reach)) (λ k _. p.none k);
}

longer : (size : ℕ) (xs : List ℕ) (w x d h : ℕ) → Through size (length xs) (slice_set xs w x) d h →
    Through size (length (slice_set xs w x)) (slice_set xs w x) d h
longer size xs w x d h p = subst (λ n. Through size n (slice_set xs w x) d h) (sym (length-set xs w x)) p

-- the same, of the nearest
pub best_after_now : (size : ℕ) (xs : List ℕ) (w x : ℕ) (r : BestRoute) (h : ℕ) → r ≡ nearest size xs → w < length xs →
    r.via ≡ Node h → ((x + 1 < r.dist) ⊎ ((x + 1 ≡ r.dist) × (w ≤ h))) →
    route_of (x + 1) (Node w) ≡ nearest size (slice_set xs w x)
best_after_now size xs w x r h e short v closer =
    leads_nearest size (slice_set xs w x) (route_of (x + 1) (Node w))
    (longer size xs w x (x + 1) w
    (leads_now size (length xs) xs w x r.dist h short short closer (nearest_node size xs r h e v)))

pub best_after_first : (size : ℕ) (xs : List ℕ) (w x : ℕ) (r : BestRoute) → r ≡ nearest size xs → w < length xs →
    r.via ≡ Nowhere → x + 1 < r.dist → route_of (x + 1) (Node w) ≡ nearest size (slice_set xs w x)
best_after_first size xs w x r e short v closer =
    leads_nearest size (slice_set xs w x) (route_of (x + 1) (Node w))
    (longer size xs w x (x + 1) w
    (leads_first size (length xs) xs w x r.dist short short closer (nearest_nowhere size xs r e v)))

pub best_after_still : (size : ℕ) (xs : List ℕ) (w x : ℕ) (r : BestRoute) (h : ℕ) → r ≡ nearest size xs → w < length xs →
    r.via ≡ Node h → (w ≡ h → ⊥) → ((r.dist < x + 1) ⊎ ((r.dist ≡ x + 1) × (h < w))) →
    r ≡ nearest size (slice_set xs w x)
best_after_still size xs w x r h e short v other farther =
    leads_nearest size (slice_set xs w x) r
    (subst (λ u. LeadsBy size (length (slice_set xs w x)) (slice_set xs w x) r.dist u) (sym v)
    (longer size xs w x r.dist h
    (leads_still size (length xs) xs w x r.dist h short other farther (nearest_node size xs r h e v))))

pub best_after_nowhere : (size : ℕ) (xs : List ℕ) (w x : ℕ) (r : BestRoute) → r ≡ nearest size xs → w < length xs →
    r.via ≡ Nowhere → r.dist ≤ x + 1 → r ≡ nearest size (slice_set xs w x)
best_after_nowhere size xs w x r e short v far =
    let p = none_still size (length xs) xs w x r.dist short far (nearest_nowhere size xs r e v) in
    let q : Without size (length (slice_set xs w x)) (slice_set xs w x) r.dist =
    subst (λ n. Without size n (slice_set xs w x) r.dist) (sym (length-set xs w x)) p in
    leads_nearest size (slice_set xs w x) r
    (subst (λ u. LeadsBy size (length (slice_set xs w x)) (slice_set xs w x) r.dist u) (sym v) q)

-- a route that stays the nearest stays the best
pub stays_by : (o : OpeningView) (v : ℕ) (xs : List ℕ) (w x : ℕ) (r : BestRoute) → r ≡ best_by o v xs →
    (r ≡ nearest o.size xs → r ≡ nearest o.size (slice_set xs w x)) → r ≡ best_by o v (slice_set xs w x)
stays_by o v xs w x r e still =
    ⊎_elim (λ (own : v ≡ o.me). e ∙ own_route o v xs own ∙ sym (own_route o v (slice_set xs w x) own))
    (λ (other : v ≡ o.me → ⊥). still (e ∙ other_route o v xs other) ∙ sym (other_route o v (slice_set xs w x) other))
    (cases_eq v o.me)
