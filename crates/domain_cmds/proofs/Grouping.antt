-- Nodes are grouped by what distances come to.
use Rattle.std.proofs.Common.{◌≡◌, ◌≢◌, ⊎_elim, inl, inr, ℕ, suc, ◌+◌, ◌<◌, List, [], ◌∷◌, ◌++◌, All, Contains, Option, map, flat_map}
use Rattle.std.proofs.Common.{refl, sym, subst, ap, ◌∙◌, append_assoc, arith}
use Rattle.std.proofs.lemmas.Bool.{cases_eq}
use Rattle.std.proofs.lemmas.List.{append-nil, map_push}
use Rattle.std.proofs.lemmas.List.Concat.{flat_map-append}
use Rattle.std.proofs.lemmas.List.Elements.{All-cons, All-head, All-map, All-nil, All-push, All-tail, All-weaker, Contains-append_cases, Contains-append_left, Contains-append_right}
use Rattle.std.proofs.lemmas.List.Kept.{AllPairs-cons}
use Rattle.std.proofs.lemmas.List.Quantifiers.{all_pairs_push}
use Rattle.filter_verifier.specs.VerifiedView.{VerifiedView}
use Rattle.netchange_core.specs.OpeningView.{OpeningView}
use Rattle.domain_reports.specs.Views.{EffectView}
use Rattle.domain_cmds.specs.Said.{AddsNode, AreDistinct, AreEffects, IsEffect, distances_under}

-- ---- lists

-- what holds of each holds with one more in the middle
all_with : {X : Type 0} (P : X → Type 0) (xs ys : List X) (y : X) → All P (xs ++ ys) → P y → All P (xs ++ y ∷ ys)
all_with P [] ys y h here = All-cons P y ys here h
all_with P (x ∷ xs) ys y h here =
    All-cons P x (xs ++ y ∷ ys) (All-head P x (xs ++ ys) h) (all_with P xs ys y (All-tail P x (xs ++ ys) h) here)

-- or with another in its place
all_instead : {X : Type 0} (P : X → Type 0) (xs ys : List X) (x y : X) → (P x → P y) → All P (xs ++ x ∷ ys) → All P (xs ++ y ∷ ys)
all_instead P [] ys x y f h = All-cons P y ys (f (All-head P x ys h)) (All-tail P x ys h)
all_instead P (z ∷ xs) ys x y f h =
    All-cons P z (xs ++ y ∷ ys) (All-head P z (xs ++ x ∷ ys) h) (all_instead P xs ys x y f (All-tail P z (xs ++ x ∷ ys) h))

map_instead : {X Y : Type 0} (f : X → Y) (xs ys : List X) (x y : X) → f x ≡ f y → map f (xs ++ x ∷ ys) ≡ map f (xs ++ y ∷ ys)
map_instead f [] ys x y e = ap (λ z. z ∷ map f ys) e
map_instead f (z ∷ xs) ys x y e = ap (λ zs. f z ∷ zs) (map_instead f xs ys x y e)

first_apart : {X : Type 0} (x : X) (xs : List X) → AreDistinct (x ∷ xs) → All (λ y. x ≢ y) xs
first_apart x xs h k d short = h 0 (suc k) d (omega arith) (omega (arith, short))

rest_apart : {X : Type 0} (x : X) (xs : List X) → AreDistinct (x ∷ xs) → AreDistinct xs
rest_apart x xs h i j d less short = h (suc i) (suc j) d (omega (arith, less)) (omega (arith, short))

-- distinct ones, and another in the middle
distinct_with : (xs ys : List ℕ) (y : ℕ) → AreDistinct (xs ++ ys) → All (λ x. x ≢ y) (xs ++ ys) → AreDistinct (xs ++ y ∷ ys)
distinct_with [] ys y h other =
    AllPairs-cons (λ a b. a ≢ b) y ys (All-weaker (λ x. x ≢ y) (λ x. y ≢ x) (λ x apart same. apart (sym same)) ys other) h
distinct_with (x ∷ xs) ys y h other =
    AllPairs-cons (λ a b. a ≢ b) x (xs ++ y ∷ ys)
    (all_with (λ z. x ≢ z) xs ys y (first_apart x (xs ++ ys) h) (All-head (λ z. z ≢ y) x (xs ++ ys) other))
    (distinct_with xs ys y (rest_apart x (xs ++ ys) h) (All-tail (λ z. z ≢ y) x (xs ++ ys) other))

contains_with : (xs ys : List ℕ) (y x : ℕ) → Contains (xs ++ ys) x → Contains (xs ++ y ∷ ys) x
contains_with xs ys y x h = ⊎_elim
    (λ (left : Contains xs x). Contains-append_left xs (y ∷ ys) x left)
    (λ (right : Contains ys x). Contains-append_right xs (y ∷ ys) x (suc right.0, omega (arith, right.1), right.2))
    (Contains-append_cases xs ys x h)

contains_it : (xs ys : List ℕ) (y : ℕ) → Contains (xs ++ y ∷ ys) y
contains_it xs ys y = Contains-append_right xs (y ∷ ys) y (0, omega arith, refl)

-- ---- nodes

abbrev nodes_of : List EffectView → List ℕ
nodes_of effects = flat_map (λ effect. effect.nodes) effects

-- nodes of lesser numbers than this are said, each once
pub record AreNodes (n : ℕ) (nodes : List ℕ) : Type 0 where
  pub all : (v : ℕ) → v < n → Contains nodes v
  pub once : AreDistinct nodes
  pub below : All (λ v. v < n) nodes

one_node_more : (n : ℕ) (front back old new : List ℕ) → old ≡ front ++ back → new ≡ front ++ n ∷ back → AreNodes n old → AreNodes (n + 1) new
one_node_more n front back old new was is a =
    let before = subst (AreNodes n) was a in
    subst (AreNodes (n + 1)) (sym is) (record {
      all = λ v less. ⊎_elim
          (λ (same : v ≡ n). subst (λ k. Contains (front ++ n ∷ back) k) (sym same) (contains_it front back n))
          (λ (other : v ≢ n). contains_with front back n v (before.all v (omega (arith, less, other))))
          (cases_eq v n);
      once = distinct_with front back n before.once
          (All-weaker (λ v. v < n) (λ v. v ≢ n) (λ v less same. omega (arith, less, same)) (front ++ back) before.below);
      below = all_with (λ v. v < n + 1) front back n
          (All-weaker (λ v. v < n) (λ v. v < n + 1) (λ v less. omega (arith, less)) (front ++ back) before.below) (omega arith);
    })

-- ---- effects

module _ (o : OpeningView) (filter : Option VerifiedView) where
  -- what is said of nodes of lesser numbers than this
  pub record AreSoFar (n : ℕ) (effects : List EffectView) : Type 0 where
    pub right : All (IsEffect o filter) effects
    pub nodes : AreNodes n (nodes_of effects)
    pub apart : AreDistinct (map (λ effect. effect.distances) effects)

  pub none_yet : AreSoFar 0 []
  none_yet = record {
    right = All-nil (IsEffect o filter);
    nodes = record { all = λ v less. absurd (omega (arith, less)); once = λ i j d less short. absurd (omega (arith, short)); below = All-nil (λ v. v < 0) };
    apart = λ i j d less short. absurd (omega (arith, short));
  }

  -- the node joins those of which distances come to the same
  joins : (n : ℕ) (distances nodes : List ℕ) (before behind old new : List EffectView) → n < o.size → distances ≡ distances_under o filter n
      → old ≡ before ++ record { distances = distances; nodes = nodes } ∷ behind
      → new ≡ before ++ record { distances = distances; nodes = nodes ++ n ∷ [] } ∷ behind → AreSoFar n old → AreSoFar (n + 1) new
  joins n distances nodes before behind old new short is was now a =
      let one : EffectView = record { distances = distances; nodes = nodes } in
      let more : EffectView = record { distances = distances; nodes = nodes ++ n ∷ [] } in
      let then_so = subst (AreSoFar n) was a in
      subst (AreSoFar (n + 1)) (sym now) (record {
        right = all_instead (IsEffect o filter) before behind one more
            (λ h. All-push (λ v. (v < o.size) × (distances ≡ distances_under o filter v)) nodes n h (short, is)) then_so.right;
        nodes = one_node_more n (nodes_of before ++ nodes) (nodes_of behind) (nodes_of (before ++ one ∷ behind)) (nodes_of (before ++ more ∷ behind))
            (flat_map-append (λ (effect : EffectView). effect.nodes) before (one ∷ behind) ∙ sym (append_assoc (nodes_of before) nodes (nodes_of behind)))
            (flat_map-append (λ (effect : EffectView). effect.nodes) before (more ∷ behind)
            ∙ ap (λ (l : List ℕ). nodes_of before ++ l) (append_assoc nodes (n ∷ []) (nodes_of behind))
            ∙ sym (append_assoc (nodes_of before) nodes (n ∷ nodes_of behind)))
            then_so.nodes;
        apart = subst AreDistinct (map_instead (λ (effect : EffectView). effect.distances) before behind one more refl) then_so.apart;
      })

  -- the node is the first of which distances come to these
  begins : (n : ℕ) (distances : List ℕ) (old new : List EffectView) → n < o.size → distances ≡ distances_under o filter n
      → All (λ effect. effect.distances ≢ distances) old → new ≡ old ++ record { distances = distances; nodes = n ∷ [] } ∷ [] → AreSoFar n old
      → AreSoFar (n + 1) new
  begins n distances old new short is none now a =
      let one : EffectView = record { distances = distances; nodes = n ∷ [] } in
      subst (AreSoFar (n + 1)) (sym now) (record {
        right = All-push (IsEffect o filter) old one a.right
            (All-cons (λ v. (v < o.size) × (distances ≡ distances_under o filter v)) n [] (short, is)
            (All-nil (λ v. (v < o.size) × (distances ≡ distances_under o filter v))));
        nodes = one_node_more n (nodes_of old) [] (nodes_of old) (nodes_of (old ++ one ∷ [])) (sym (append-nil (nodes_of old)))
            (flat_map-append (λ (effect : EffectView). effect.nodes) old (one ∷ [])) a.nodes;
        apart = subst AreDistinct (sym (map_push (λ (effect : EffectView). effect.distances) old one))
            (all_pairs_push (λ x y. x ≢ y) (map (λ (effect : EffectView). effect.distances) old) distances a.apart
            (All-map (λ d. d ≢ distances) (λ (effect : EffectView). effect.distances) old none));
      })

  pub one_more : (n : ℕ) (distances : List ℕ) (old new : List EffectView) → n < o.size → distances ≡ distances_under o filter n
      → AddsNode distances n old new → AreSoFar n old → AreSoFar (n + 1) new
  one_more n distances old new short is (inl (before, behind, nodes, none, was, now)) a =
      joins n distances nodes before behind old new short is was now a
  one_more n distances old new short is (inr (none, now)) a = begins n distances old new short is none now a

  -- all nodes
  pub all_said : (effects : List EffectView) → AreSoFar o.size effects → AreEffects o filter effects
  all_said effects a = record { right = a.right; all = a.nodes.all; once = a.nodes.once; apart = a.apart }
