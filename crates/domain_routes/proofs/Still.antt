-- Distances that two plans have in common between which a plan stayed stand still, whatever happened meanwhile.
use mathlib.Core.Logic.{inl, inr}
use Rattle.std.proofs.Common.{◌≡◌, ◌≢◌, ⊎_elim, ℕ, ◌<◌, ◌≤◌, ◌+◌, ◌&&◌, zero, suc, min, Bool, true, false, List, Option, None, Some, cond, if◌then◌else◌}
use Rattle.std.proofs.Common.{eq-eqb, ne_eqb, sym, ap, subst, refl, ◌∙◌, arith}
use Rattle.std.proofs.lemmas.Bool.{cases_Bool, cases_eq}
use Rattle.filter_verifier.specs.VerifiedView.{VerifiedView}
use Rattle.netchange_core.specs.Best.{best, distance}
use Rattle.netchange_core.specs.FilteredDistance.{filtered_distance}
use Rattle.netchange_core.specs.OpeningView.{OpeningView}
use Rattle.routing_domain.proofs.Watching.{IsFar, far_distance, far_from, far_via}
use Rattle.routing_domain.specs.Domain.{Domain, IsInOrder, topology as domain_topology}
use Rattle.routing_domain.specs.Failures.{AreOneBelow, HappenAll, IsLoose, Loose, with_all, with_none}
use Rattle.routing_domain.specs.Network.{IsOrderly, IsWhole, Network}
use Rattle.routing_domain.specs.Phases.{Phases}
use Rattle.routing_domain.specs.Rest.{Topology}
use Rattle.routing_domain.specs.Ways.{GoesVia}
use Rattle.domain_routes.specs.declared.best.Best.{Best}
use Rattle.domain_routes.specs.Edits.{exporting, half_unfiltered, importing, linking, unfiltered}
use Rattle.domain_routes.specs.OfDomain.{IsPlanOf}
use Rattle.domain_routes.specs.PlanView.{HasPlaces, IsPlan, PeerView, PlanView, is_linked, opening_of, peer}
use Rattle.domain_routes.specs.Routes.{AreRoutes, route_at}
use Rattle.domain_routes.specs.Still.{BetweenView, HasFewerLinks, HasSameFilters, IsBetween, IsSince, StaysBetween, after_anew, after_filter, after_link}
use Rattle.domain_routes.specs.Still.{after_links_below, is_none, is_other, is_unfiltered, least_below, lesser_of_two, loose_between, one_below, still_between, unchanged}
use Rattle.domain_routes.specs.Topology.{filtered, topology}
use Rattle.domain_routes.proofs.Filtering.{unfiltered_plan}
use Rattle.domain_routes.proofs.Linking.{AreEnds, IsLink, cases_ends, linked_here, linked_there, linking_keeps, linking_plan}
use Rattle.domain_routes.proofs.OfDomain.{AreAlike, alike, goes_alike, rest_alike, same_filtered_distance}
use Rattle.domain_routes.proofs.Places.{cases_place, put_here, put_places, put_same, put_there}

-- ---- the bound

-- one number more
pub least_more : (limit n : ℕ) (f : ℕ → ℕ) → least_below limit (n + 1) f ≡ min (least_below limit n f) (f n)
least_more limit n f = ap (λ k. least_below limit k f) (let more : n + 1 ≡ suc n = omega arith in more)

-- it is at most the limit, and no value is less
at_most : (limit n : ℕ) (f : ℕ → ℕ) → least_below limit n f ≤ limit
at_most limit zero f = omega arith
at_most limit (suc n) f = omega (arith, at_most limit n f)

no_less : (limit n : ℕ) (f : ℕ → ℕ) (k : ℕ) → k < n → least_below limit n f ≤ f k
no_less limit zero f k short = absurd (omega (arith, short))
no_less limit (suc n) f k short =
    ⊎_elim
    (λ (last : k ≡ n). omega (arith, ap f last))
    (λ (other : k ≢ n). omega (arith, no_less limit n f k (omega (arith, short, other))))
    (cases_eq k n)

-- and it is the greatest of such bounds
at_least : (limit n : ℕ) (f : ℕ → ℕ) (k : ℕ) → k ≤ limit → ((u : ℕ) → u < n → k ≤ f u) → k ≤ least_below limit n f
at_least limit zero f k within each = within
at_least limit (suc n) f k within each =
    omega (arith, at_least limit n f k within (λ u short. each u (omega (arith, short))), each n (omega arith))

module _ (size : ℕ) (a b : ℕ → ℕ) where
  pub within_size : one_below size a b ≤ size
  within_size = at_most size size (λ u. lesser_of_two size (a u) (b u))

  two_at : (u : ℕ) → a u ≢ b u → lesser_of_two size (a u) (b u) ≡ min (a u) (b u)
  two_at u other = ap (λ t. cond t size (min (a u) (b u))) (ne_eqb (a u) (b u) other)

  one_at : (u : ℕ) → a u ≡ b u → lesser_of_two size (a u) (b u) ≡ size
  one_at u same = ap (λ t. cond t size (min (a u) (b u))) (eq-eqb (a u) (b u) same)

  -- nodes that have two distances have none below the bound
  far_at : (u : ℕ) → u < size → a u ≢ b u → (one_below size a b ≤ a u) × (one_below size a b ≤ b u)
  far_at u short other =
      let less : one_below size a b ≤ lesser_of_two size (a u) (b u) = no_less size size (λ x. lesser_of_two size (a x) (b x)) u short in
      (omega (arith, less, two_at u other), omega (arith, less, two_at u other))

  pub are_one : AreOneBelow size (one_below size a b) a b
  are_one u short = ⊎_elim (λ (same : a u ≡ b u). inl (sym same)) (λ (other : a u ≢ b u). inr (far_at u short other)) (cases_eq (a u) (b u))

  pub are_one_back : AreOneBelow size (one_below size a b) b a
  are_one_back u short = ⊎_elim
      (λ (same : a u ≡ b u). inl same)
      (λ (other : a u ≢ b u). let far = far_at u short other in inr (far.1, far.0))
      (cases_eq (a u) (b u))

  pub is_greatest : (k : ℕ) → k ≤ size → AreOneBelow size k a b → k ≤ one_below size a b
  is_greatest k within agree =
      at_least size size (λ u. lesser_of_two size (a u) (b u)) k within (λ u short. ⊎_elim
      (λ (same : a u ≡ b u). omega (arith, within, one_at u same))
      (λ (other : a u ≢ b u). ⊎_elim
      (λ (is : b u ≡ a u). absurd (other (sym is)))
      (λ (far : (k ≤ a u) × (k ≤ b u)). omega (arith, far.0, far.1, two_at u other))
      (agree u short))
      (cases_eq (a u) (b u)))

-- ---- what was done to a plan

never : {A : Type 0} → false ≡ true → A
never h = absurd (let no : false ≡ true = h in cc)

and_left : (a b : Bool) → (a && b) ≡ true → a ≡ true
and_left true b h = refl
and_left false b h = h

and_right : (a b : Bool) → (a && b) ≡ true → b ≡ true
and_right true b h = h
and_right false b h = never h

pub cuts_fewer : (p q : PlanView) (u w : ℕ) → IsLink q u w → HasFewerLinks p q → HasFewerLinks p (linking false u w q)
cuts_fewer p q u w l f = record {
  size = f.size;
  prefixes = f.prefixes;
  linked = λ x y h. ⊎_elim
      (λ ends. never (sym (linked_here q u w false l x y ends) ∙ h))
      (λ other. f.linked x y (sym (linked_there q u w false l x y other) ∙ h))
      (cases_ends u w x y);
  imports = λ x y. linking_keeps (λ (c : PeerView). c.imports) (λ _ _. refl) q u w false l x y ∙ f.imports x y;
  exports = λ x y. linking_keeps (λ (c : PeerView). c.exports) (λ _ _. refl) q u w false l x y ∙ f.exports x y;
}

pub has_itself : (p : PlanView) → HasFewerLinks p p
has_itself p = record { size = refl; prefixes = refl; linked = λ u w h. h; imports = λ u w. refl; exports = λ u w. refl }

-- links that are fewer than those that are fewer
pub fewer_on : (p q r : PlanView) → HasFewerLinks p q → HasFewerLinks q r → HasFewerLinks p r
fewer_on p q r one next = record {
  size = next.size ∙ one.size;
  prefixes = next.prefixes ∙ one.prefixes;
  linked = λ u w linked. one.linked u w (next.linked u w linked);
  imports = λ u w. next.imports u w ∙ one.imports u w;
  exports = λ u w. next.exports u w ∙ one.exports u w;
}

-- a plan that another became, which has the same links between all others than these, and the same filters
record KeepsOthers (q r : PlanView) (u w : ℕ) : Type 0 where
  size : q.size ≡ r.size
  prefixes : q.prefixes ≡ r.prefixes
  linked : (x y : ℕ) → (AreEnds u w x y → ⊥) → is_linked r x y ≡ is_linked q x y
  imports : (x y : ℕ) → (peer r x y).imports ≡ (peer q x y).imports
  exports : (x y : ℕ) → (peer r x y).exports ≡ (peer q x y).exports

keeps_itself : (q : PlanView) (u w : ℕ) → KeepsOthers q q u w
keeps_itself q u w = record { size = refl; prefixes = refl; linked = λ x y _. refl; imports = λ x y. refl; exports = λ x y. refl }

linking_others : (q : PlanView) (u w : ℕ) (linked : Bool) → IsLink q u w → KeepsOthers q (linking linked u w q) u w
linking_others q u w linked l = record {
  size = refl;
  prefixes = refl;
  linked = λ x y other. linked_there q u w linked l x y other;
  imports = λ x y. linking_keeps (λ (c : PeerView). c.imports) (λ _ _. refl) q u w linked l x y;
  exports = λ x y. linking_keeps (λ (c : PeerView). c.exports) (λ _ _. refl) q u w linked l x y;
}

-- a link came and went
module _ (b : BetweenView) (u w : ℕ) (greatest : IsLink b.most u w) (smallest : IsLink b.least u w) where
  kept_imports : (x y : ℕ) → (peer (linking true u w b.most) x y).imports ≡ (peer b.most x y).imports
  kept_imports x y = linking_keeps (λ (c : PeerView). c.imports) (λ _ _. refl) b.most u w true greatest x y

  kept_exports : (x y : ℕ) → (peer (linking true u w b.most) x y).exports ≡ (peer b.most x y).exports
  kept_exports x y = linking_keeps (λ (c : PeerView). c.exports) (λ _ _. refl) b.most u w true greatest x y

  kept_none : (x y : ℕ) → is_unfiltered (linking true u w b.most) x y ≡ is_unfiltered b.most x y
  kept_none x y = λ i. is_none (kept_imports x y i) && is_none (kept_exports y x i)

  -- filters that may have been replaced still may
  loose_more : (x y : ℕ) → (loose_between b).filters x y ≡ true → (loose_between (after_link u w b)).filters x y ≡ true
  loose_more x y h = ⊎_elim
      (λ ends.
      (λ i. is_other (linked_here b.most u w true greatest x y ends i) (linked_here b.least u w false smallest x y ends i) && kept_none x y i)
      ∙ and_right (is_other (is_linked b.most x y) (is_linked b.least x y)) (is_unfiltered b.most x y) h)
      (λ other.
      (λ i. is_other (linked_there b.most u w true greatest x y other i) (linked_there b.least u w false smallest x y other i) && kept_none x y i) ∙ h)
      (cases_ends u w x y)

  link_between : (q r : PlanView) → KeepsOthers q r u w → IsBetween b q → IsBetween (after_link u w b) r
  link_between q r e s = record {
    size = s.size ∙ e.size;
    prefixes = s.prefixes ∙ e.prefixes;
    more = λ x y h. ⊎_elim
        (λ ends. linked_here b.most u w true greatest x y ends)
        (λ other. linked_there b.most u w true greatest x y other ∙ s.more x y (sym (e.linked x y other) ∙ h))
        (cases_ends u w x y);
    fewer = λ x y h. ⊎_elim
        (λ ends. never (sym (linked_here b.least u w false smallest x y ends) ∙ h))
        (λ other. e.linked x y other ∙ s.fewer x y (sym (linked_there b.least u w false smallest x y other) ∙ h))
        (cases_ends u w x y);
    filters = λ x y. ⊎_elim
        (λ loose. inl (loose_more x y loose))
        (λ (same : HasSameFilters b.most q x y). inr (record {
          imports = kept_imports x y ∙ same.imports ∙ sym (e.imports x y);
          exports = kept_exports y x ∙ same.exports ∙ sym (e.exports y x);
        }))
        (s.filters x y);
  }

-- filters are off between two nodes
module _ (p : PlanView) (u w : ℕ) (places : HasPlaces p) (from : u < p.size) (to : w < p.size) where
  abbrev half : PlanView
  half = half_unfiltered u w p

  half_places : HasPlaces half
  half_places = put_places p u w (record (peer p u w) { imports = None }) places from

  off_linked : (x y : ℕ) → is_linked (unfiltered u w p) x y ≡ is_linked p x y
  off_linked x y =
      put_same (λ (c : PeerView). c.linked) half w u (record (peer half w u) { exports = None }) half_places to from refl x y
      ∙ put_same (λ (c : PeerView). c.linked) p u w (record (peer p u w) { imports = None }) places from to refl x y

  half_imports : (x y : ℕ) → (peer (unfiltered u w p) x y).imports ≡ (peer half x y).imports
  half_imports x y = put_same (λ (c : PeerView). c.imports) half w u (record (peer half w u) { exports = None }) half_places to from refl x y

  imports_off : (peer (unfiltered u w p) u w).imports ≡ None
  imports_off = half_imports u w ∙ ap (λ (c : PeerView). c.imports) (put_here p u w (record (peer p u w) { imports = None }) places from to u w refl refl)

  imports_there : (x y : ℕ) → (x ≡ u → y ≡ w → ⊥) → (peer (unfiltered u w p) x y).imports ≡ (peer p x y).imports
  imports_there x y other =
      half_imports x y ∙ ap (λ (c : PeerView). c.imports) (put_there p u w (record (peer p u w) { imports = None }) places from x y other)

  exports_off : (peer (unfiltered u w p) w u).exports ≡ None
  exports_off = ap (λ (c : PeerView). c.exports) (put_here half w u (record (peer half w u) { exports = None }) half_places to from w u refl refl)

  exports_there : (x y : ℕ) → (x ≡ w → y ≡ u → ⊥) → (peer (unfiltered u w p) x y).exports ≡ (peer p x y).exports
  exports_there x y other =
      ap (λ (c : PeerView). c.exports) (put_there half w u (record (peer half w u) { exports = None }) half_places to x y other)
      ∙ put_same (λ (c : PeerView). c.exports) p u w (record (peer p u w) { imports = None }) places from to refl x y

-- a plan that another became, which has the same links, and the same filters but between these
record KeepsOtherFilters (q r : PlanView) (u w : ℕ) : Type 0 where
  size : q.size ≡ r.size
  prefixes : q.prefixes ≡ r.prefixes
  linked : (x y : ℕ) → is_linked r x y ≡ is_linked q x y
  imports : (x y : ℕ) → (x ≡ u → y ≡ w → ⊥) → (peer r x y).imports ≡ (peer q x y).imports
  exports : (x y : ℕ) → (x ≡ w → y ≡ u → ⊥) → (peer r x y).exports ≡ (peer q x y).exports

keeps_all : (q : PlanView) (u w : ℕ) → KeepsOtherFilters q q u w
keeps_all q u w = record { size = refl; prefixes = refl; linked = λ x y. refl; imports = λ x y _. refl; exports = λ x y _. refl }

importing_others : (q : PlanView) (f : VerifiedView) (u w : ℕ) → HasPlaces q → u < q.size → w < q.size → KeepsOtherFilters q (importing f u w q) u w
importing_others q f u w places from to = record {
  size = refl;
  prefixes = refl;
  linked = λ x y. put_same (λ (c : PeerView). c.linked) q u w (record (peer q u w) { imports = Some f }) places from to refl x y;
  imports = λ x y other. ap (λ (c : PeerView). c.imports) (put_there q u w (record (peer q u w) { imports = Some f }) places from x y other);
  exports = λ x y _. put_same (λ (c : PeerView). c.exports) q u w (record (peer q u w) { imports = Some f }) places from to refl x y;
}

exporting_others : (q : PlanView) (f : VerifiedView) (u w : ℕ) → HasPlaces q → u < q.size → w < q.size → KeepsOtherFilters q (exporting f w u q) u w
exporting_others q f u w places from to = record {
  size = refl;
  prefixes = refl;
  linked = λ x y. put_same (λ (c : PeerView). c.linked) q w u (record (peer q w u) { exports = Some f }) places to from refl x y;
  imports = λ x y _. put_same (λ (c : PeerView). c.imports) q w u (record (peer q w u) { exports = Some f }) places to from refl x y;
  exports = λ x y other. ap (λ (c : PeerView). c.exports) (put_there q w u (record (peer q w u) { exports = Some f }) places to x y other);
}

module _ (b : BetweenView) (u w : ℕ) (places : HasPlaces b.most) (from : u < b.most.size) (to : w < b.most.size)
    (linked : is_linked b.most u w ≡ true) (apart : is_linked b.least u w ≡ false) where
  abbrev off : BetweenView
  off = record { most = unfiltered u w b.most; least = b.least }

  loose_here : (loose_between off).filters u w ≡ true
  loose_here =
      λ i. is_other ((off_linked b.most u w places from to u w ∙ linked) i) (apart i)
      && (is_none (imports_off b.most u w places from to i) && is_none (exports_off b.most u w places from to i))

  loose_at : (x y : ℕ) → x ≡ u → y ≡ w → (loose_between off).filters x y ≡ true
  loose_at x y one other =
      ap (λ (n : ℕ). (loose_between off).filters n y) one ∙ ap (λ (n : ℕ). (loose_between off).filters u n) other ∙ loose_here

  loose_there : (x y : ℕ) → (x ≡ u → y ≡ w → ⊥) → (loose_between off).filters x y ≡ (loose_between b).filters x y
  loose_there x y other =
      λ i. is_other (off_linked b.most u w places from to x y i) (is_linked b.least x y)
      && (is_none (imports_there b.most u w places from to x y other i) && is_none (exports_there b.most u w places from to y x (λ s t. other t s) i))

  off_between : (q r : PlanView) → KeepsOtherFilters q r u w → IsBetween b q → IsBetween off r
  off_between q r e s = record {
    size = s.size ∙ e.size;
    prefixes = s.prefixes ∙ e.prefixes;
    more = λ x y h. off_linked b.most u w places from to x y ∙ s.more x y (sym (e.linked x y) ∙ h);
    fewer = λ x y h. e.linked x y ∙ s.fewer x y h;
    filters = λ x y. ⊎_elim
        (λ (at : (x ≡ u) × (y ≡ w)). inl (loose_at x y (at.0) (at.1)))
        (λ (other : x ≡ u → y ≡ w → ⊥). ⊎_elim
        (λ loose. inl (loose_there x y other ∙ loose))
        (λ (same : HasSameFilters b.most q x y). inr (record {
          imports = imports_there b.most u w places from to x y other ∙ same.imports ∙ sym (e.imports x y other);
          exports = exports_there b.most u w places from to y x (λ s t. other t s) ∙ same.exports ∙ sym (e.exports y x (λ s t. other t s));
        }))
        (s.filters x y))
        (cases_place u w x y);
  }

-- ---- it stays between them

pub begins_between : (p : PlanView) → IsPlan p → StaysBetween (unchanged p) p p
begins_between p plan =
    let here : IsBetween (unchanged p) p = record {
      size = refl;
      prefixes = refl;
      more = λ x y h. h;
      fewer = λ x y h. h;
      filters = λ x y. inr (record { imports = refl; exports = refl });
    } in
    record { most = plan; least = plan; size = refl; since = record { between = here; least = has_itself p }; now = here }

module _ (b : BetweenView) (p q : PlanView) (s : StaysBetween b p q) (u w : ℕ) (from : u < q.size) (to : w < q.size) (apart : u ≢ w) where
  in_most : IsLink b.most u w
  in_most = record { plan = s.most; from = omega (arith, from, s.now.size); to = omega (arith, to, s.now.size); apart = apart }

  in_least : IsLink b.least u w
  in_least = record {
    plan = s.least;
    from = omega (arith, from, s.now.size, s.size);
    to = omega (arith, to, s.now.size, s.size);
    apart = apart;
  }

  since_link : IsSince (after_link u w b) p
  since_link = record {
    between = link_between b u w in_most in_least p p (keeps_itself p u w) s.since.between;
    least = cuts_fewer p b.least u w in_least s.since.least;
  }

  loosened : (r : PlanView) → KeepsOthers q r u w → StaysBetween (after_link u w b) p r
  loosened r e = record {
    most = linking_plan b.most u w true in_most;
    least = linking_plan b.least u w false in_least;
    size = s.size;
    since = since_link;
    now = link_between b u w in_most in_least q r e s.now;
  }

  pub link_stays : (linked : Bool) → IsPlan q → StaysBetween (after_link u w b) p (linking linked u w q)
  link_stays linked plan = loosened (linking linked u w q) (linking_others q u w linked (record { plan = plan; from = from; to = to; apart = apart }))

  pub flap_stays : StaysBetween (after_link u w b) p q
  flap_stays = loosened q (keeps_itself q u w)

  both_places : HasPlaces (linking true u w b.most)
  both_places = (linking_plan b.most u w true in_most).places

  off_stays : (r : PlanView) → KeepsOtherFilters q r u w → StaysBetween (after_filter u w b) p r
  off_stays r e =
      let linked : is_linked (linking true u w b.most) u w ≡ true = linked_here b.most u w true in_most u w (inl (refl, refl)) in
      let unlinked : is_linked (linking false u w b.least) u w ≡ false = linked_here b.least u w false in_least u w (inl (refl, refl)) in
      record {
        most = unfiltered_plan (linking true u w b.most) u w (linking_plan b.most u w true in_most) in_most.from in_most.to;
        least = linking_plan b.least u w false in_least;
        size = s.size;
        since = record {
          between = off_between (after_link u w b) u w both_places in_most.from in_most.to linked unlinked p p (keeps_all p u w) since_link.between;
          least = since_link.least;
        };
        now = off_between (after_link u w b) u w both_places in_most.from in_most.to linked unlinked q r e flap_stays.now;
      }

  pub import_stays : (f : VerifiedView) → IsPlan q → StaysBetween (after_filter u w b) p (importing f u w q)
  import_stays f plan = off_stays (importing f u w q) (importing_others q f u w plan.places from to)

  pub export_stays : (f : VerifiedView) → IsPlan q → StaysBetween (after_filter u w b) p (exporting f w u q)
  export_stays f plan = off_stays (exporting f w u q) (exporting_others q f u w plan.places from to)

module _ (p q : PlanView) (plan : IsPlan q) (u : ℕ) (from : u < q.size) where
  -- no node is linked to itself
  other_node : (w : ℕ) → is_linked q u w ≡ true → u ≢ w
  other_node w linked same = never (sym (plan.apart u) ∙ ap (λ (n : ℕ). is_linked q u n) same ∙ linked)

  one_link : (b : BetweenView) → StaysBetween b p q → (w : ℕ) → w < q.size → (t : Bool) → is_linked q u w ≡ t →
      StaysBetween (if t then after_link u w b else b) p q
  one_link b s w to true linked = flap_stays b p q s u w from to (other_node w linked)
  one_link b s w to false linked = s

  links_stay : (b : BetweenView) → StaysBetween b p q → (n : ℕ) → n ≤ q.size → StaysBetween (after_links_below n q u b) p q
  links_stay b s zero within = s
  links_stay b s (suc n) within =
      one_link (after_links_below n q u b) (links_stay b s n (omega (arith, within))) n (omega (arith, within)) (is_linked q u n) refl

  pub anew_stays : (b : BetweenView) → StaysBetween b p q → StaysBetween (after_anew q u b) p q
  anew_stays b s = links_stay b s q.size (omega arith)

-- one number more
pub links_more : (n : ℕ) (q : PlanView) (u : ℕ) (b : BetweenView) → after_links_below (n + 1) q u b
    ≡ (if is_linked q u n then after_link u n (after_links_below n q u b) else after_links_below n q u b)
links_more n q u b = ap (λ k. after_links_below k q u b) (let more : n + 1 ≡ suc n = omega arith in more)

-- ---- topologies

-- what lies between is the greater where the lesser is not, and both where they are one
between_all : (m l x : Bool) → (x ≡ true → m ≡ true) → (l ≡ true → x ≡ true) → m ≡ (if is_other m l then true else x)
between_all true true true g f = refl
between_all true true false g f = never (f refl)
between_all true false x g f = refl
between_all false true x g f = never (g (f refl))
between_all false false true g f = g refl
between_all false false false g f = refl

between_none : (m l x : Bool) → (x ≡ true → m ≡ true) → (l ≡ true → x ≡ true) → l ≡ (if is_other m l then false else x)
between_none true true true g f = refl
between_none true true false g f = sym (f refl)
between_none true false x g f = refl
between_none false true x g f = never (g (f refl))
between_none false false true g f = g refl
between_none false false false g f = refl

-- the same filters make the same toll
toll_at : (p q : PlanView) → p.size ≡ q.size → p.prefixes ≡ q.prefixes → (v u w x : ℕ) → HasSameFilters p q u w → filtered p v u w x ≡ filtered q v u w x
toll_at p q size prefixes v u w x f =
    same_filtered_distance (opening_of p) (opening_of q) size prefixes (peer p u w).imports v
    (filtered_distance (opening_of p) (peer p w u).exports v x)
    ∙ ap (λ y. filtered_distance (opening_of q) (peer p u w).imports v y)
    (same_filtered_distance (opening_of p) (opening_of q) size prefixes (peer p w u).exports v x)
    ∙ ap (λ g. filtered_distance (opening_of q) g v (filtered_distance (opening_of q) (peer p w u).exports v x)) f.imports
    ∙ ap (λ g. filtered_distance (opening_of q) (peer q u w).imports v (filtered_distance (opening_of q) g v x)) f.exports

pub same_toll : (p q : PlanView) → HasFewerLinks p q → (v u w x : ℕ) → filtered q v u w x ≡ filtered p v u w x
same_toll p q f v u w x = toll_at q p f.size f.prefixes v u w x (record { imports = f.imports u w; exports = f.exports w u })

-- without filters a distance stays
passes : (o : OpeningView) (f : Option VerifiedView) (v d : ℕ) → is_none f ≡ true → filtered_distance o f v d ≡ d
unfolding filtered_distance
passes o None v d h = refl
passes o (Some f) v d h = never h

no_toll : (p : PlanView) (v u w x : ℕ) → is_unfiltered p u w ≡ true → filtered p v u w x ≡ x
no_toll p v u w x h =
    passes (opening_of p) (peer p u w).imports v (filtered_distance (opening_of p) (peer p w u).exports v x)
    (and_left (is_none (peer p u w).imports) (is_none (peer p w u).exports) h)
    ∙ passes (opening_of p) (peer p w u).exports v x (and_right (is_none (peer p u w).imports) (is_none (peer p w u).exports) h)

module _ (b : BetweenView) (p : PlanView) (s : IsSince b p) (v : ℕ) where
  abbrev loose : Loose
  loose = loose_between b

  -- where filters may have been replaced, the greatest has none
  loose_toll : (u w x : ℕ) → loose.filters u w ≡ true → filtered b.most v u w x ≡ (if loose.filters u w then x else filtered p v u w x)
  loose_toll u w x h =
      no_toll b.most v u w x (and_right (is_other (is_linked b.most u w) (is_linked b.least u w)) (is_unfiltered b.most u w) h)
      ∙ ap (λ (t : Bool). if t then x else filtered p v u w x) (sym h)

  kept_toll : (u w x : ℕ) → loose.filters u w ≡ false → filtered b.most v u w x ≡ (if loose.filters u w then x else filtered p v u w x)
  kept_toll u w x h = ⊎_elim
      (λ (is : loose.filters u w ≡ true). never (sym h ∙ is))
      (λ (same : HasSameFilters b.most p u w).
      toll_at b.most p s.between.size s.between.prefixes v u w x same ∙ ap (λ (t : Bool). if t then x else filtered p v u w x) (sym h))
      (s.between.filters u w)

  top : AreAlike (topology b.most v) (with_all (topology p v) loose)
  top = record {
    size = s.between.size;
    linked = λ u w _ _. between_all (is_linked b.most u w) (is_linked b.least u w) (is_linked p u w) (s.between.more u w) (s.between.fewer u w);
    filtered = λ u w x _ _. ⊎_elim (λ is. loose_toll u w x is) (λ isnt. kept_toll u w x isnt) (cases_Bool (loose.filters u w));
  }

  bottom : AreAlike (topology b.least v) (with_none (topology p v) loose)
  bottom = record {
    size = s.least.size;
    linked = λ u w _ _. between_none (is_linked b.most u w) (is_linked b.least u w) (is_linked p u w) (s.between.more u w) (s.between.fewer u w);
    filtered = λ u w x _ _. same_toll p b.least s.least v u w x;
  }

-- so it is in a domain with the links and filters of a plan
all_alike : (m n : Topology) (loose : Loose) → AreAlike m n → AreAlike (with_all m loose) (with_all n loose)
all_alike m n loose s = record {
  size = s.size;
  linked = λ u w short within. ap (λ (b : Bool). if loose.links u w then true else b) (s.linked u w short within);
  filtered = λ u w x short within. ap (λ y. if loose.filters u w then x else y) (s.filtered u w x short within);
}

none_alike : (m n : Topology) (loose : Loose) → AreAlike m n → AreAlike (with_none m loose) (with_none n loose)
none_alike m n loose s = record {
  size = s.size;
  linked = λ u w short within. ap (λ (b : Bool). if loose.links u w then false else b) (s.linked u w short within);
  filtered = λ u w x short within. s.filtered u w x short within;
}

alike_on : (m n o : Topology) → AreAlike m n → AreAlike n o → AreAlike m o
alike_on m n o one next = record {
  size = one.size ∙ next.size;
  linked = λ u w short within. one.linked u w short within ∙ next.linked u w (omega (arith, short, one.size)) (omega (arith, within, one.size));
  filtered = λ u w x short within. one.filtered u w x short within ∙ next.filtered u w x (omega (arith, short, one.size)) (omega (arith, within, one.size));
}

is_loose : (b : BetweenView) → IsPlan b.most → IsPlan b.least → IsLoose (loose_between b)
is_loose b most least = record {
  back = λ u w h. (λ i. is_other (most.both_ways w u i) (least.both_ways w u i)) ∙ h;
  within = λ u w h. and_left (is_other (is_linked b.most u w) (is_linked b.least u w)) (is_unfiltered b.most u w) h;
}

-- ---- what stands still

-- Two plans between which a plan stayed, their routes to a destination, a network with the links and filters of that plan as it was, which was left
-- alone, and what happened to it.
pub record Happened (b : BetweenView) (p : PlanView) (v : ℕ) (most least : List Best) (n m : Network) : Type 0 where
  pub greatest : IsPlan b.most
  pub smallest : IsPlan b.least
  pub since : IsSince b p
  pub there : v < p.size
  pub with_all : AreRoutes (topology b.most v) v most
  pub with_none : AreRoutes (topology b.least v) v least
  pub orderly : IsOrderly n
  pub whole : IsWhole n
  pub of_plan : IsPlanOf n.domain p
  pub start : Domain
  pub in_order : IsInOrder start
  pub phases : Phases (still_between b most least) start n.domain
  pub count : ℕ
  pub happen : HappenAll count (loose_between b) n m

module _ (b : BetweenView) (p : PlanView) (v : ℕ) (most least : List Best) (n m : Network) (h : Happened b p v most least n m) where
  abbrev pub dist_all : ℕ → ℕ
  dist_all u = (route_at b.most.size most u).dist

  abbrev pub dist_none : ℕ → ℕ
  dist_none u = (route_at b.least.size least u).dist

  top_domain : AreAlike (topology b.most v) (with_all (domain_topology n.domain v) (loose_between b))
  top_domain = alike_on (topology b.most v) (with_all (topology p v) (loose_between b)) (with_all (domain_topology n.domain v) (loose_between b))
      (top b p h.since v) (all_alike (topology p v) (domain_topology n.domain v) (loose_between b) (alike n.domain p h.of_plan v))

  bottom_domain : AreAlike (topology b.least v) (with_none (domain_topology n.domain v) (loose_between b))
  bottom_domain = alike_on (topology b.least v) (with_none (topology p v) (loose_between b)) (with_none (domain_topology n.domain v) (loose_between b))
      (bottom b p h.since v) (none_alike (topology p v) (domain_topology n.domain v) (loose_between b) (alike n.domain p h.of_plan v))

  same_size : b.most.size ≡ n.domain.size
  same_size = h.since.between.size ∙ sym h.of_plan.size

  far : IsFar n.domain v (still_between b most least) (loose_between b) dist_all dist_none m.domain
  far = far_from n m (still_between b most least) h.start (loose_between b) v dist_all dist_none h.orderly h.whole
      (let within : still_between b most least ≤ b.most.size = within_size b.most.size dist_all dist_none in omega (arith, within, same_size))
      h.in_order h.phases (is_loose b h.greatest h.smallest) (omega (arith, h.there, h.of_plan.size))
      (rest_alike (topology b.most v) (with_all (domain_topology n.domain v) (loose_between b)) top_domain v dist_all h.with_all.rest)
      (rest_alike (topology b.least v) (with_none (domain_topology n.domain v) (loose_between b)) bottom_domain v dist_none h.with_none.rest)
      (λ u short. are_one b.most.size dist_all dist_none u (omega (arith, short, same_size))) h.count h.happen

  pub distance_stands : (u : ℕ) → u < p.size → dist_all u < still_between b most least → distance (m.domain.router u) v ≡ dist_all u
  distance_stands u short near =
      far_distance n.domain v (still_between b most least) (loose_between b) dist_all dist_none m.domain far u
      (omega (arith, short, h.of_plan.size)) near

  pub via_stands : (u : ℕ) → u < p.size → dist_all u < still_between b most least →
      (route_at b.most.size most u).via ≡ (route_at b.least.size least u).via → (best (m.domain.router u) v).via ≡ (route_at b.most.size most u).via
  via_stands u short near same =
      let in_top : u < b.most.size = omega (arith, short, h.since.between.size) in
      let in_bottom : u < b.least.size = omega (arith, short, h.since.least.size) in
      far_via n.domain v (still_between b most least) (loose_between b) dist_all dist_none m.domain far u
      (omega (arith, short, h.of_plan.size)) near (route_at b.most.size most u).via
      (goes_alike (topology b.most v) (with_all (domain_topology n.domain v) (loose_between b)) top_domain v dist_all u in_top
      (route_at b.most.size most u).via (h.with_all.vias u in_top))
      (goes_alike (topology b.least v) (with_none (domain_topology n.domain v) (loose_between b)) bottom_domain v dist_none u in_bottom
      (route_at b.most.size most u).via
      (subst (GoesVia (topology b.least v) v dist_none u) (sym same) (h.with_none.vias u in_bottom)))
