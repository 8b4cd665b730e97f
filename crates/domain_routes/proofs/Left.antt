-- Routes that are left after links were cut: they are the best among themselves, and once all nodes are done, the routes at rest.
use Rattle.std.proofs.Common.{◌≡◌, ◌≢◌, ◌⊎◌, ⊎_elim, inl, inr, ℕ, ◌+◌, suc, zero, ◌<◌, ◌≤◌, Bool, true, false, List, [], ◌∷◌, length, replicate, slice_index_or, slice_set}
use Rattle.std.proofs.Common.{get_or-set_same, get_or-set_other, refl, sym, ap, subst, ◌∙◌, arith}
use Rattle.std.proofs.lemmas.Bool.{cases_Bool, cases_eq, cases_order, false≢true}
use Rattle.std.proofs.lemmas.List.{get_or-replicate, get_or_default, length-replicate}
use Rattle.netchange_core.specs.declared.reply.Via.{Via}
use Rattle.netchange_core.specs.declared.reply.Via.TheVariants.{Local, Node, Nowhere}
use Rattle.routing_domain.specs.Rest.{LeadsThrough, Topology}
use Rattle.routing_domain.specs.Ways.{GoesVia, LeadsFirst}
use Rattle.domain_routes.specs.Cuts.{WereRoutes}
use Rattle.domain_routes.specs.Left.{AreBestBefore, AreLeft, HasHops, IsLeft}
use Rattle.domain_routes.specs.Offers.{ComesBefore, StaysBehind, hop_of, way}
use Rattle.domain_routes.specs.PlanView.{PlanView, is_linked}
use Rattle.domain_routes.specs.Routes.{AreRoutes, nowhere, own_route, route_at}
use Rattle.domain_routes.specs.Solving.{AreAllDone, IsBestSoFar, IsFound, IsOffered, is_done}
use Rattle.domain_routes.specs.Topology.{filtered, topology}
use Rattle.domain_routes.specs.declared.best.Best.{Best}
use Rattle.domain_routes.proofs.Offering.{behind_way, tie_in_reach}
use Rattle.domain_routes.proofs.One.{route_of_parts}
use Rattle.domain_routes.proofs.Still.{same_toll}

-- ---- one node more is done

pub still_done : (done : List Bool) (k x : ℕ) → is_done done x ≡ true → is_done (slice_set done k true) x ≡ true
still_done [] zero x h = h
still_done [] (suc k) x h = h
still_done (b ∷ done) zero zero h = refl
still_done (b ∷ done) zero (suc x) h = h
still_done (b ∷ done) (suc k) zero h = h
still_done (b ∷ done) (suc k) (suc x) h = still_done done k x h

is_left_still : (linked : ℕ → ℕ → Bool) (done : List Bool) (k u : ℕ) (via : Via) → IsLeft linked (is_done done) u via
    → IsLeft linked (is_done (slice_set done k true)) u via
is_left_still linked done k u Local l = l
is_left_still linked done k u (Node w) l = (still_done done k w (l.0), l.1)
is_left_still linked done k u Nowhere l = l

-- if its route is left, too
pub left_more : (plan : PlanView) (before : List Best) (done : List Bool) (k : ℕ) → AreLeft plan before (is_done done)
    → IsLeft (is_linked plan) (is_done done) k (route_at plan.size before k).via → AreLeft plan before (is_done (slice_set done k true))
left_more plan before done k left here = λ u short is.
    is_left_still (is_linked plan) done k u (route_at plan.size before u).via
    (⊎_elim
    (λ (same : u ≡ k). subst (λ n. IsLeft (is_linked plan) (is_done done) n (route_at plan.size before n).via) (sym same) here)
    (λ (other : u ≢ k). left u short (sym (get_or-set_other done k u true true other) ∙ is))
    (cases_eq u k))

-- ---- the routes that were

-- links that are fewer, and the same tolls
module _ (n : Topology) (to : ℕ) (linked : ℕ → ℕ → Bool) (tolls : ℕ → ℕ → ℕ → ℕ) (fewer : (u w : ℕ) → n.linked u w ≡ true → linked u w ≡ true)
    (same : (u w x : ℕ) → n.filtered u w x ≡ tolls u w x) (routes : List Best)
    (were : AreRoutes (record { size = n.size; linked = linked; filtered = tolls }) to routes) where
  abbrev was : Topology
  was = record { size = n.size; linked = linked; filtered = tolls }

  abbrev route : ℕ → Best
  route u = route_at n.size routes u

  abbrev dist : ℕ → ℕ
  dist u = (route u).dist

  own_via : (via : Via) → GoesVia was to dist to via → via ≡ Local
  own_via Local goes = refl
  own_via (Node w) goes = absurd (goes.leads.other refl)
  own_via Nowhere goes = absurd (goes.0 refl)

  pub goes_local : to < n.size → (route to).via ≡ Local
  goes_local short = own_via (route to).via (were.vias to short)

  pub hops_within : HasHops n.size routes
  hops_within u w short is =
      let goes : LeadsFirst was to dist u w = subst (GoesVia was to dist u) is (were.vias u short) in
      goes.leads.member

  found_left : (done : ℕ → Bool) (u : ℕ) (via : Via) → u ≢ to → IsLeft n.linked done u via → GoesVia was to dist u via
      → IsFound n route done u (dist u) via
  found_left done u Local other left goes = other goes
  found_left done u (Node w) other left goes = record {
    member = goes.leads.member;
    before = left.0;
    linked = left.1;
    one_more = goes.leads.one_more ∙ ap suc (sym (same u w (dist w)));
    in_reach = goes.leads.in_reach;
  }
  found_left done u Nowhere other left goes = goes.1

  first_left : (u w : ℕ) (via : Via) → u ≢ to → w < n.size → n.linked u w ≡ true → dist u ≡ suc (n.filtered u w (dist w)) → GoesVia was to dist u via
      → hop_of via ≤ w
  first_left u w Local other member joined tie goes = absurd (other goes)
  first_left u w (Node x) other member joined tie goes =
      ⊎_elim
      (λ (is : x ≡ w). omega (arith, is))
      (λ (two : (x < w) ⊎ (w < x)). ⊎_elim
      (λ (less : x < w). omega (arith, less))
      (λ (more : w < x). absurd (goes.first w more (record {
        other = other;
        member = member;
        linked = fewer u w joined;
        one_more = tie ∙ ap suc (same u w (dist w));
        in_reach = goes.leads.in_reach;
      })))
      two)
      (cases_order x w)
  first_left u w Nowhere other member joined tie goes = omega arith

  -- those that are left are the best among themselves
  pub left_best : to < n.size → (done : ℕ → Bool) → ((u : ℕ) → u < n.size → done u ≡ true → IsLeft n.linked done u (route u).via)
      → AreBestBefore n to route done 0
  left_best short done left = record {
    own = route_of_parts (route to) own_route were.rest.own (goes_local short);
    bounded = were.rest.bounded;
    best = λ u within other which. ⊎_elim
        (λ (is : done u ≡ true). record {
          found = found_left done u (route u).via other (left u within is) (were.vias u within);
          behind = λ w member _ joined. record {
            near = omega (arith, were.rest.least u within other w member (fewer u w joined), same u w (dist w));
            first = λ tie. first_left u w (route u).via other member joined tie (were.vias u within);
          };
        })
        (λ (none : u < 0). absurd (omega (arith, none)))
        which;
  }

-- the routes of a plan before links were cut, of as many nodes
of_size : (now : PlanView) (v : ℕ) (before : List Best) (w : WereRoutes now v before)
    → AreRoutes (record { size = now.size; linked = is_linked w.whole; filtered = filtered w.whole v }) v before
of_size now v before w =
    subst (λ n. AreRoutes (record { size = n; linked = is_linked w.whole; filtered = filtered w.whole v }) v before) (sym w.fewer.size) w.routes

pub one_each : (now : PlanView) (v : ℕ) (before : List Best) → WereRoutes now v before → length before ≡ now.size
one_each now v before w = (of_size now v before w).one_a_node

pub were_hops : (now : PlanView) (v : ℕ) (before : List Best) → WereRoutes now v before → HasHops now.size before
were_hops now v before w =
    hops_within (topology now v) v (is_linked w.whole) (filtered w.whole v) w.fewer.linked (same_toll w.whole now w.fewer v) before (of_size now v before w)

pub were_best : (now : PlanView) (v : ℕ) (before : List Best) → WereRoutes now v before → v < now.size → (done : ℕ → Bool) → AreLeft now before done
    → AreBestBefore (topology now v) v (route_at now.size before) done 0
were_best now v before w short done left =
    left_best (topology now v) v (is_linked w.whole) (filtered w.whole v) w.fewer.linked (same_toll w.whole now w.fewer v) before (of_size now v before w)
    short done left

-- the destination's own route is left
pub own_left : (now : PlanView) (v : ℕ) (before : List Best) → WereRoutes now v before → v < now.size
    → AreLeft now before (is_done (slice_set (replicate now.size false) v true))
own_left now v before w short =
    left_more now before (replicate now.size false) v
    (λ u within done. absurd (false≢true (sym (get_or-replicate now.size u false true within) ∙ done)))
    (subst (IsLeft (is_linked now) (is_done (replicate now.size false)) v)
    (sym (goes_local (topology now v) v (is_linked w.whole) (filtered w.whole v) w.fewer.linked (same_toll w.whole now w.fewer v) before
    (of_size now v before w) short))
    tt)

pub own_done : (n v : ℕ) → v < n → is_done (slice_set (replicate n false) v true) v ≡ true
own_done n v short = get_or-set_same (replicate n false) v true true (omega (arith, short, length-replicate n false))

-- a route that is read is that of the node
pub route_read : (size : ℕ) (routes : List Best) (k u : ℕ) (d : Best) → k ≡ u → u < length routes → slice_index_or routes k d ≡ route_at size routes u
route_read size routes k u d is short =
    ap (λ j. slice_index_or routes j d) is ∙ sym (get_or_default routes u (nowhere size) d short)

-- ---- routes that are all left

abbrev pub all : ℕ → Bool
all u = true

-- one more of them
pub left_below_more : (plan : PlanView) (before : List Best) (k u : ℕ) (d : Best) → k ≡ u → u < length before
    → ((x : ℕ) → x < u → IsLeft (is_linked plan) all x (route_at plan.size before x).via) → IsLeft (is_linked plan) all u (slice_index_or before k d).via
    → (x : ℕ) → x < u + 1 → IsLeft (is_linked plan) all x (route_at plan.size before x).via
left_below_more plan before k u d is short so_far here x less =
    ⊎_elim
    (λ (same : x ≡ u). subst (λ (r : Best). IsLeft (is_linked plan) all x r.via)
    (route_read plan.size before k u d is short ∙ ap (route_at plan.size before) (sym same))
    (subst (λ n. IsLeft (is_linked plan) all n (slice_index_or before k d).via) (sym same) here))
    (λ (other : x ≢ u). so_far x (omega (arith, less, other)))
    (cases_eq x u)

-- a next hop that is read is a node
pub hop_read : (size : ℕ) (before : List Best) (k u w : ℕ) (d : Best) → HasHops size before → k ≡ u → u < size → length before ≡ size
    → (slice_index_or before k d).via ≡ Node w → w < size
hop_read size before k u w d hops is short long leads =
    hops u w short (ap (λ (r : Best). r.via) (get_or_default before u (nowhere size) d (omega (arith, short, long)))
    ∙ ap (λ j. (slice_index_or before j d).via) (sym is) ∙ leads)

-- ---- the best way of a node that is not done

-- of the ways through nodes before one
pub record IsBestBelow (m : Topology) (routes : ℕ → Best) (done : ℕ → Bool) (u n : ℕ) (route : Best) : Type 0 where
  pub found : IsFound m routes done u route.dist route.via
  pub behind : (w : ℕ) → w < m.size → w < n → done w ≡ true → m.linked u w ≡ true → StaysBehind (suc (m.filtered u w (routes w).dist)) w route

module _ (m : Topology) (routes : ℕ → Best) (done : ℕ → Bool) (u : ℕ) where
  -- none
  pub none_below : IsBestBelow m routes done u 0 (nowhere m.size)
  none_below = record { found = refl; behind = λ w _ none. absurd (omega (arith, none)) }

  in_bounds : (dist : ℕ) (via : Via) → IsFound m routes done u dist via → dist ≤ m.size
  in_bounds dist Local f = absurd f
  in_bounds dist (Node w) f = omega (arith, f.in_reach)
  in_bounds dist Nowhere f = omega (arith, f)

  -- one node more, which has no way
  pub below_skips : (n : ℕ) (route : Best) → IsBestBelow m routes done u n route → (done n ≡ true → m.linked u n ≡ false)
      → IsBestBelow m routes done u (n + 1) route
  below_skips n route b apart = record {
    found = b.found;
    behind = λ w member less is joined. ⊎_elim
        (λ (same : w ≡ n). absurd (false≢true (sym (apart (subst (λ k. done k ≡ true) same is)) ∙ subst (λ k. m.linked u k ≡ true) same joined)))
        (λ (other : w ≢ n). b.behind w member (omega (arith, less, other)) is joined)
        (cases_eq w n);
  }

  -- one whose way does not come before
  below_keeps : (n : ℕ) (route : Best) → IsBestBelow m routes done u n route → StaysBehind (suc (m.filtered u n (routes n).dist)) n route
      → IsBestBelow m routes done u (n + 1) route
  below_keeps n route b here = record {
    found = b.found;
    behind = λ w member less is joined. ⊎_elim
        (λ (same : w ≡ n). subst (λ k. StaysBehind (suc (m.filtered u k (routes k).dist)) k route) (sym same) here)
        (λ (other : w ≢ n). b.behind w member (omega (arith, less, other)) is joined)
        (cases_eq w n);
  }

  -- one whose way does
  below_takes : (n : ℕ) (route : Best) → n < m.size → done n ≡ true → m.linked u n ≡ true → IsBestBelow m routes done u n route
      → ComesBefore (suc (m.filtered u n (routes n).dist)) n route → IsBestBelow m routes done u (n + 1) (way (suc (m.filtered u n (routes n).dist)) n)
  below_takes n route short is joined b comes = record {
    found = record {
      member = short;
      before = is;
      linked = joined;
      one_more = refl;
      in_reach = ⊎_elim
          (λ (shorter : suc (m.filtered u n (routes n).dist) < route.dist). omega (arith, shorter, in_bounds route.dist route.via b.found))
          (λ (tie : (suc (m.filtered u n (routes n).dist) ≡ route.dist) × (n < hop_of route.via)).
          omega (arith, tie.0, tie_in_reach m routes done u route.dist n route.via b.found (tie.1)))
          comes;
    };
    behind = λ w member less there linked. ⊎_elim
        (λ (same : w ≡ n). subst (λ k. StaysBehind (suc (m.filtered u k (routes k).dist)) k (way (suc (m.filtered u n (routes n).dist)) n)) (sym same)
        (record { near = omega arith; first = λ _. omega arith }))
        (λ (other : w ≢ n). behind_way (suc (m.filtered u n (routes n).dist)) n route comes (suc (m.filtered u w (routes w).dist)) w
        (b.behind w member (omega (arith, less, other)) there linked))
        (cases_eq w n);
  }

  -- one that is done, and was offered
  pub below_more : (n : ℕ) (old new : Best) → n < m.size → done n ≡ true → IsBestBelow m routes done u n old
      → IsOffered m n (routes n).dist u old new → IsBestBelow m routes done u (n + 1) new
  below_more n old new short is b o =
      ⊎_elim
      (λ (joined : m.linked u n ≡ true). ⊎_elim
      (λ (taken : (new ≡ way (suc (m.filtered u n (routes n).dist)) n) × ComesBefore (suc (m.filtered u n (routes n).dist)) n old).
      subst (IsBestBelow m routes done u (n + 1)) (sym (taken.0)) (below_takes n old short is joined b (taken.1)))
      (λ (kept : (new ≡ old) × StaysBehind (suc (m.filtered u n (routes n).dist)) n old).
      subst (IsBestBelow m routes done u (n + 1)) (sym (kept.0)) (below_keeps n old b (kept.1)))
      (o.taken joined))
      (λ (apart : m.linked u n ≡ false). subst (IsBestBelow m routes done u (n + 1)) (sym (o.kept apart)) (below_skips n old b (λ _. apart)))
      (cases_Bool (m.linked u n))

  -- all of them
  pub below_all : (route : Best) → IsBestBelow m routes done u m.size route → IsBestSoFar m routes done u route
  below_all route b = record { found = b.found; behind = λ w member is joined. b.behind w member member is joined }

-- what is the best at some routes is it at others that are the same at the nodes that are done
best_same : (m : Topology) (a b : ℕ → Best) (done : ℕ → Bool) (u : ℕ) (route : Best) → ((x : ℕ) → done x ≡ true → b x ≡ a x)
    → IsBestSoFar m a done u route → IsBestSoFar m b done u route
best_same m a b done u route same best = record {
  found = found_same route.dist route.via best.found;
  behind = λ w member is joined. subst (λ (r : Best). StaysBehind (suc (m.filtered u w r.dist)) w route) (sym (same w is)) (best.behind w member is joined);
}
  where
    found_same : (dist : ℕ) (via : Via) → IsFound m a done u dist via → IsFound m b done u dist via
    found_same dist Local f = f
    found_same dist (Node w) f = record {
      member = f.member;
      before = f.before;
      linked = f.linked;
      one_more = subst (λ (r : Best). dist ≡ suc (m.filtered u w r.dist)) (sym (same w f.before)) f.one_more;
      in_reach = f.in_reach;
    }
    found_same dist Nowhere f = f

-- a node that is done has its route already
pub one_done_more : (m : Topology) (to : ℕ) (routes : ℕ → Best) (done : ℕ → Bool) (n : ℕ) → done n ≡ true → AreBestBefore m to routes done n
    → AreBestBefore m to routes done (n + 1)
one_done_more m to routes done n is b = record {
  own = b.own;
  bounded = b.bounded;
  best = λ u short other which. b.best u short other (⊎_elim
      (λ (there : done u ≡ true). inl there)
      (λ (less : u < n + 1). ⊎_elim
      (λ (same : u ≡ n). inl (subst (λ k. done k ≡ true) (sym same) is))
      (λ (apart : u ≢ n). inr (omega (arith, less, apart)))
      (cases_eq u n))
      which);
}

-- and one that is not takes the best way
pub one_way_more : (m : Topology) (to : ℕ) (old new : ℕ → Best) (done : ℕ → Bool) (n : ℕ) → done to ≡ true → done n ≡ false
    → AreBestBefore m to old done n → IsBestSoFar m old done n (new n) → ((x : ℕ) → x ≢ n → new x ≡ old x) → AreBestBefore m to new done (n + 1)
one_way_more m to old new done n own waits b best others =
    let there : (x : ℕ) → done x ≡ true → new x ≡ old x =
    λ x is. others x (λ same. false≢true (sym waits ∙ subst (λ k. done k ≡ true) same is)) in
    record {
      own = there to own ∙ b.own;
      bounded = λ u short. ⊎_elim
          (λ (same : u ≡ n). subst (λ k. (new k).dist ≤ m.size) (sym same) (in_bounds m old done n (new n).dist (new n).via best.found))
          (λ (apart : u ≢ n). subst (λ (r : Best). r.dist ≤ m.size) (sym (others u apart)) (b.bounded u short))
          (cases_eq u n);
      best = λ u short other which. ⊎_elim
          (λ (same : u ≡ n). subst (λ k. IsBestSoFar m new done k (new k)) (sym same) (best_same m old new done n (new n) there best))
          (λ (apart : u ≢ n). subst (IsBestSoFar m new done u) (sym (others u apart))
          (best_same m old new done u (old u) there (b.best u short other (⊎_elim
          (λ (is : done u ≡ true). inl is) (λ (less : u < n + 1). inr (omega (arith, less, apart))) which))))
          (cases_eq u n);
    }

-- the same, of lists: a mark that is read says that the node is not done, and it gets its way
pub waits_read : (done : List Bool) (k n : ℕ) (d : Bool) → k ≡ n → n < length done → slice_index_or done k d ≡ false → is_done done n ≡ false
waits_read done k n d is short waits =
    get_or_default done n true d short ∙ ap (λ j. slice_index_or done j d) (sym is) ∙ waits

pub way_taken : (m : Topology) (to : ℕ) (routes : List Best) (done : ℕ → Bool) (k n : ℕ) (route : Best) → k ≡ n → n < length routes
    → done to ≡ true → done n ≡ false → AreBestBefore m to (route_at m.size routes) done n → IsBestSoFar m (route_at m.size routes) done n route
    → AreBestBefore m to (route_at m.size (slice_set routes k route)) done (n + 1)
way_taken m to routes done k n route is short own waits b best =
    let here : route_at m.size (slice_set routes k route) n ≡ route =
    ap (λ j. route_at m.size (slice_set routes j route) n) is ∙ get_or-set_same routes n route (nowhere m.size) short in
    one_way_more m to (route_at m.size routes) (route_at m.size (slice_set routes k route)) done n own waits b
    (subst (IsBestSoFar m (route_at m.size routes) done n) (sym here) best)
    (λ x other. get_or-set_other routes k x route (nowhere m.size) (λ same. other (same ∙ is)))

-- ---- a way that is offered

-- to one node more
pub offered_more : (m : Topology) (w dist u : ℕ) (first old new : ℕ → Best) → ((x : ℕ) → x < u → IsOffered m w dist x (first x) (old x))
    → ((x : ℕ) → u ≤ x → old x ≡ first x) → IsOffered m w dist u (old u) (new u) → ((x : ℕ) → x ≢ u → new x ≡ old x)
    → (x : ℕ) → x < u + 1 → IsOffered m w dist x (first x) (new x)
offered_more m w dist u first old new so_far behind here others x less =
    ⊎_elim
    (λ (same : x ≡ u). subst (λ n. IsOffered m w dist n (first n) (new n)) (sym same)
    (subst (λ (r : Best). IsOffered m w dist u r (new u)) (behind u (omega arith)) here))
    (λ (other : x ≢ u). subst (IsOffered m w dist x (first x)) (sym (others x other)) (so_far x (omega (arith, less, other))))
    (cases_eq x u)

pub keeps_more : (done : ℕ → Bool) (u : ℕ) (first old new : ℕ → Best) → ((x : ℕ) → done x ≡ true → old x ≡ first x) → (done u ≡ true → new u ≡ old u)
    → ((x : ℕ) → x ≢ u → new x ≡ old x) → (x : ℕ) → done x ≡ true → new x ≡ first x
keeps_more done u first old new so_far here others x is =
    ⊎_elim
    (λ (same : x ≡ u). subst (λ n. new n ≡ old n) (sym same) (here (subst (λ n. done n ≡ true) same is)) ∙ so_far x is)
    (λ (other : x ≢ u). others x other ∙ so_far x is)
    (cases_eq x u)

-- ---- at the end

module _ (m : Topology) (to : ℕ) (routes : List Best) (done : ℕ → Bool) (all : AreAllDone m.size done)
    (b : AreBestBefore m to (route_at m.size routes) done m.size) where
  abbrev routed : ℕ → Best
  routed u = route_at m.size routes u

  leads_on : (u : ℕ) (via : Via) → u ≢ to → (routed u).dist < m.size → IsFound m routed done u (routed u).dist via
      → (w : ℕ) × LeadsThrough m to (λ x. (routed x).dist) u w
  leads_on u Local other reached f = absurd f
  leads_on u (Node w) other reached f =
      (w, record { other = other; member = f.member; linked = f.linked; one_more = f.one_more; in_reach = f.in_reach })
  leads_on u Nowhere other reached f = absurd (omega (arith, reached, f))

  goes_on : (u : ℕ) (via : Via) → u < m.size → u ≢ to → (routed u).via ≡ via → IsFound m routed done u (routed u).dist via
      → GoesVia m to (λ x. (routed x).dist) u via
  goes_on u Local short other is f = absurd f
  goes_on u (Node w) short other is f = record {
    leads = record { other = other; member = f.member; linked = f.linked; one_more = f.one_more; in_reach = f.in_reach };
    first = λ x less l. absurd (let no_later : hop_of (routed u).via ≤ x =
        ((b.best u short other (inr short)).behind x l.member (all x l.member) l.linked).first l.one_more in
        omega (arith, less, no_later, ap hop_of is));
  }
  goes_on u Nowhere short other is f = (other, f)

  -- when all nodes are done, their routes are those at rest
  pub all_at_rest : length routes ≡ m.size → AreRoutes m to routes
  all_at_rest long = record {
    one_a_node = long;
    rest = record {
      own = ap (λ (r : Best). r.dist) b.own;
      bounded = b.bounded;
      least = λ u short other w member linked. ((b.best u short other (inr short)).behind w member (all w member) linked).near;
      led = λ u short other reached. leads_on u (routed u).via other reached (b.best u short other (inr short)).found;
    };
    vias = λ u short. ⊎_elim
        (λ (same : u ≡ to). subst (GoesVia m to (λ x. (routed x).dist) u) (sym (ap (λ n. (routed n).via) same ∙ ap (λ (r : Best). r.via) b.own)) same)
        (λ (other : u ≢ to). goes_on u (routed u).via short other refl (b.best u short other (inr short)).found)
        (cases_eq u to);
  }

-- routes that are all left are those at rest
pub all_left : (now : PlanView) (before : List Best) → ((u : ℕ) → u < now.size → IsLeft (is_linked now) all u (route_at now.size before u).via)
    → (v : ℕ) → v < now.size → WereRoutes now v before → AreRoutes (topology now v) v before
all_left now before left v short w =
    let best : AreBestBefore (topology now v) v (route_at now.size before) all 0 = were_best now v before w short all (λ u within _. left u within) in
    all_at_rest (topology now v) v before all (λ u _. refl)
    (record { own = best.own; bounded = best.bounded; best = λ u within other _. best.best u within other (inl refl) })
    (one_each now v before w)
