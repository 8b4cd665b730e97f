-- The nearest node of a prefix is chosen.
use Rattle.std.proofs.Common.{◌≡◌, ◌∙◌, ap, subst, refl, ℕ, suc, zero, ◌<◌, ◌≤◌, Bool, true, false, None, List, arith}
use Rattle.std.specs.Prelude.{◌+◌, ◌==◌, if◌then◌else◌, nat_lt}
use Rattle.std.specs.Bool.{beq}
use Rattle.std.specs.Cmp.Lexicographic.{pointwise}
use Rattle.netchange_core.specs.declared.best_route.BestRoute.{BestRoute}
use Rattle.netchange_core.specs.declared.reply.Via.TheVariants.{Local, Node, Nowhere}
use Rattle.netchange_core.specs.Best.{best, distance, first_at, least, nearest, neighbour_distances, route_of}
use Rattle.netchange_core.specs.FilteredDistance.{prefix_of}
use Rattle.netchange_core.specs.World.{World}
use Rattle.netchange_core.proofs.Opened.{other_route, own_route}
use Rattle.route_feed.specs.Laws.{IsNearest, IsOutOfReach}
use Rattle.route_feed.specs.Table.{hop_of, nearer, nearest_below, table}
use Rattle.route_feed.proofs.Gathering.{own_prefix, same_prefix}

both_farther : (one two : BestRoute) (d : ℕ) → d < one.dist → d < two.dist → d < (nearer one two).dist
both_farther one two d h g = pick (nat_lt two.dist one.dist)
  where
    pick : (b : Bool) → d < (if b then two else one).dist
    pick true = g
    pick false = h

nearer_second : (one two : BestRoute) → two.dist < one.dist → nearer one two ≡ two
nearer_second one two h = ap (λ b. if b then two else one) (let e : nat_lt two.dist one.dist ≡ true = grind (arith, h) in e)

nearer_first : (one two : BestRoute) → one.dist ≤ two.dist → nearer one two ≡ one
nearer_first one two h = ap (λ b. if b then two else one) (let e : nat_lt two.dist one.dist ≡ false = grind (arith, h) in e)

module _ (size : ℕ) (prefix : ℕ → List Bool) (route : ℕ → BestRoute) (p : List Bool) where
  -- no node of the prefix can be reached
  out_of_reach : (n : ℕ) → ((u : ℕ) → u < n → prefix u ≡ p → size ≤ (route u).dist) →
      nearest_below size prefix route p n ≡ route_of size Nowhere
  out_of_reach zero far = refl
  out_of_reach (suc m) far = pick (pointwise beq (prefix m) p) refl (out_of_reach m (λ u le. far u (omega (arith, le))))
    where
      pick : (b : Bool) → pointwise beq (prefix m) p ≡ b → nearest_below size prefix route p m ≡ route_of size Nowhere →
          (if b then nearer (nearest_below size prefix route p m) (route m) else nearest_below size prefix route p m) ≡ route_of size Nowhere
      pick true e h = ap (λ (r : BestRoute). nearer r (route m)) h
          ∙ nearer_first (route_of size Nowhere) (route m) (far m (omega arith) (same_prefix (prefix m) p e))
      pick false e h = h

  module _ (v : ℕ) (here : prefix v ≡ p) (reached : (route v).dist < size) where
    -- before it comes all are farther
    before : (n : ℕ) → ((u : ℕ) → u < n → prefix u ≡ p → (route v).dist < (route u).dist) →
        (route v).dist < (nearest_below size prefix route p n).dist
    before zero far = reached
    before (suc m) far = pick (pointwise beq (prefix m) p) refl (before m (λ u le. far u (omega (arith, le))))
      where
        pick : (b : Bool) → pointwise beq (prefix m) p ≡ b → (route v).dist < (nearest_below size prefix route p m).dist →
            (route v).dist < (if b then nearer (nearest_below size prefix route p m) (route m) else nearest_below size prefix route p m).dist
        pick true e h = both_farther (nearest_below size prefix route p m) (route m) (route v).dist h
            (far m (omega arith) (same_prefix (prefix m) p e))
        pick false e h = h

    at_it : ((u : ℕ) → u < v → prefix u ≡ p → (route v).dist < (route u).dist) → nearest_below size prefix route p (suc v) ≡ route v
    at_it far =
        let equal : pointwise beq (prefix v) p ≡ true = subst (λ (q : List Bool). pointwise beq (prefix v) q ≡ true) here (own_prefix (prefix v)) in
        ap (λ b. if b then nearer (nearest_below size prefix route p v) (route v) else nearest_below size prefix route p v) equal
        ∙ nearer_second (nearest_below size prefix route p v) (route v) (before v far)

    -- and from then on none is nearer
    chosen : (n : ℕ) → v < n → ((u : ℕ) → u < v → prefix u ≡ p → (route v).dist < (route u).dist) →
        ((u : ℕ) → u < n → prefix u ≡ p → (route v).dist ≤ (route u).dist) → nearest_below size prefix route p n ≡ route v
    chosen zero le far near = absurd (let no : ⊥ = omega (arith, le) in no)
    chosen (suc m) le far near = last (v == m) refl (λ below. chosen m below far (λ u le. near u (omega (arith, le))))
      where
        pick : (b : Bool) → pointwise beq (prefix m) p ≡ b → nearest_below size prefix route p m ≡ route v →
            (if b then nearer (nearest_below size prefix route p m) (route m) else nearest_below size prefix route p m) ≡ route v
        pick true e h = ap (λ (r : BestRoute). nearer r (route m)) h
            ∙ nearer_first (route v) (route m) (near m (omega arith) (same_prefix (prefix m) p e))
        pick false e h = h

        last : (b : Bool) → (v == m) ≡ b → (v < m → nearest_below size prefix route p m ≡ route v) →
            nearest_below size prefix route p (suc m) ≡ route v
        last true e ih = let at : v ≡ m = grind (arith, e) in
            subst (λ x. nearest_below size prefix route p (suc x) ≡ route v) at (at_it far)
        last false e ih = pick (pointwise beq (prefix m) p) refl (ih (grind (arith, e, le)))

-- packets for a prefix go along the route to the nearest node that has it
pub to_nearest : (w : World) (p : List Bool) (v : ℕ) → IsNearest w p v → table w p ≡ hop_of (best w v)
to_nearest w p v h = ap hop_of (chosen w.opening.size (prefix_of w.opening) (best w) p v h.prefix h.reached w.opening.size h.node h.least h.nearest)

pub to_nobody : (w : World) (p : List Bool) → IsOutOfReach w p → table w p ≡ None
to_nobody w p far = ap hop_of (out_of_reach w.opening.size (prefix_of w.opening) (best w) p w.opening.size far)

some_way : (size : ℕ) (ds : List ℕ) → 0 < size → 0 < (nearest size ds).dist
some_way size ds h = pick (nat_lt (least size ds + 1) size)
  where
    pick : (b : Bool) → 0 < (if b then route_of (least size ds + 1) (Node (first_at (least size ds) ds)) else route_of size Nowhere).dist
    pick true = omega arith
    pick false = h

pub to_itself : (w : World) → w.opening.me < w.opening.size → table w (prefix_of w.opening w.opening.me) ≡ None
to_itself w h =
    let me = w.opening.me in
    let own : best w me ≡ route_of 0 Local = own_route w.opening me (neighbour_distances w me) refl in
    let zero_far : distance w me ≡ 0 = ap (λ (r : BestRoute). r.dist) own in
    to_nearest w (prefix_of w.opening me) me (record {
      node = h;
      prefix = refl;
      reached = omega (arith, zero_far, h);
      nearest = λ u le e. omega (arith, zero_far);
      least = λ u le e.
          let other : best w u ≡ nearest w.opening.size (neighbour_distances w u) =
          other_route w.opening u (neighbour_distances w u) (λ same. let no : ⊥ = omega (arith, le, same) in no) in
          let far : 0 < (nearest w.opening.size (neighbour_distances w u)).dist =
          some_way w.opening.size (neighbour_distances w u) (omega (arith, h)) in
          let is : distance w u ≡ (nearest w.opening.size (neighbour_distances w u)).dist = ap (λ (r : BestRoute). r.dist) other in
          omega (arith, zero_far, far, is);
    }) ∙ ap hop_of own
