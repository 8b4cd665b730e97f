-- The list of the present sessions.
use Rattle.std.proofs.Common.{◌≡◌, ◌≢◌, ap, refl, ℕ, zero, suc, ◌+◌, ◌-◌, ◌<◌, ◌≤◌, ◌∙◌, sym, subst, inl, inr, Result}
use Rattle.std.proofs.Common.{Ok, Err, IfNone, IfSome, Option, Some, None, List, [], ◌∷◌, ◌++◌, length, get_or, replicate}
use Rattle.std.proofs.Common.{set, All, Contains, position, arith, get_or-set_same, get_or-set_other}
use Rattle.std.specs.List.{HoldsAt, remove}
use Rattle.std.specs.Result.{result_ok}
use Rattle.std.specs.List.Sorted.{IsBinarySearchResult, IsNonDecreasingBy, IsSearchInRange}
use Rattle.std.specs.Ordering.{nat_cmp, ordering_index}
use Rattle.std.proofs.lemmas.Bool.{cases_eq, cases_lt}
use Rattle.std.proofs.lemmas.Bool.Decides.{nat_tests}
use Rattle.std.proofs.lemmas.Cmp.{ranked}
use Rattle.std.proofs.lemmas.List.{get_or_default, map-set}
use Rattle.std.proofs.lemmas.List.Edits.{get_or-remove_above, get_or-remove_below, length-remove}
use Rattle.std.proofs.lemmas.List.Elements.{All-push, All-weaker, Contains-append_left, Contains-push}
use Rattle.std.proofs.lemmas.List.Quantifiers.{all_pairs_push, all_pairs_remove}
use Rattle.std.proofs.lemmas.List.Sorted.{IsNonDecreasingBy-from_default}
use Rattle.std.proofs.lemmas.Option.{none-some, same_Some}
use Rattle.netchange_core.specs.declared.sessions.Present.{Present}
use Rattle.netchange_core.specs.Calls.{newcomer}
use Rattle.netchange_core.specs.Next.{tell_changes}
use Rattle.netchange_core.specs.OpeningView.{OpeningView}
use Rattle.netchange_core.specs.Present.{ArePresent, AreRising, IsPresent, present, session_in, sessions_of}
use Rattle.netchange_core.specs.Recomputing.{told_if_differs}
use Rattle.netchange_core.specs.World.{NeighbourView, change, has_session, neighbour_at}
use Rattle.netchange_core.proofs.Change.{change_set, map_change_same}
use Rattle.netchange_core.proofs.Holders.{AreApart, holder_found, holder_none}
use Rattle.netchange_core.proofs.Queued.{map_told, map_told_if_differs}

abbrev none : Present
none = present 0 0

-- a search among numbers that rise
module _ (ps : List Present) (rising : AreRising ps) (s : ℕ) where
  comparisons_rise : IsNonDecreasingBy (λ p. ordering_index (nat_cmp p.session s)) ps
  comparisons_rise = IsNonDecreasingBy-from_default (λ p. ordering_index (nat_cmp p.session s)) ps none (λ i j le in_range.
      let rises : (get_or ps i none).session ≤ (get_or ps j none).session =
      grind (arith, rising i j none, λ (same : i ≡ j). ap (λ k. (get_or ps k none).session) same) in
      grind (arith, nat_tests))

  pub searched : (r : Result ℕ ℕ) → IsSearchInRange r (length ps) → IsBinarySearchResult (λ p. nat_cmp p.session s) ps r →
      IfSome (result_ok r) (λ i. (i < length ps) × HoldsAt (λ p. p.session ≡ s) ps i) × IfNone (result_ok r) (All (λ p. p.session ≢ s) ps)
  searched (Ok i) in_range equal = ((in_range, λ d. ranked _ s _ (sym (equal d))), tt)
  searched (Err i) in_range parted = (
    tt,
    λ k d h same.
        let halves = parted comparisons_rise in
        elim (cases_lt k i) [
          | inl before ↦
              let less : (get_or ps k d).session < s = ranked _ s _ (sym (halves.0 k d (omega arith) before)) in
              omega arith
          | inr behind ↦
              let more : s < (get_or ps k d).session = ranked _ s _ (sym (halves.1 k d behind h)) in
              omega arith
        ],
  )

  -- where one that is not among them belongs
  pub place : (i : ℕ) → IsSearchInRange (Err i) (length ps) → IsBinarySearchResult (λ p. nat_cmp p.session s) ps (Err i) →
      (i ≤ length ps) × ((k : ℕ) (d : Present) → k < i → (get_or ps k d).session < s)
      × ((k : ℕ) (d : Present) → i ≤ k → k < length ps → s < (get_or ps k d).session)
  place i in_range parted =
      let halves = parted comparisons_rise in (
        in_range,
        λ k d before. ranked _ s _ (sym (halves.0 k d (omega arith) before)),
        λ k d behind h. ranked _ s _ (sym (halves.1 k d behind h)),
      )

-- the session of a neighbour
pub session_at : (ns : List NeighbourView) (k : ℕ) → session_in (sessions_of ns) k ≡ (neighbour_at ns k).session
session_at [] k = refl
session_at (n ∷ ns) zero = refl
session_at (n ∷ ns) (suc k) = session_at ns k

-- one neighbour changed, and then distances were told
pub sessions_changed : (ns : List NeighbourView) (k : ℕ) (f : NeighbourView → NeighbourView) → k < length ns →
    sessions_of (change k f ns) ≡ set (sessions_of ns) k (f (neighbour_at ns k)).session
sessions_changed ns k f h =
    ap sessions_of (change_set k f ns h) ∙ map-set (λ n. n.session) ns k (f (neighbour_at ns k))

pub sessions_kept : (ns ms : List NeighbourView) (k : ℕ) (f : NeighbourView → NeighbourView) → ms ≡ change k f ns →
    ((n : NeighbourView) → (f n).session ≡ n.session) → sessions_of ms ≡ sessions_of ns
sessions_kept ns ms k f e same = ap sessions_of e ∙ map_change_same (λ n. n.session) k f ns (same (neighbour_at ns k))

pub sessions_told_one : (o : OpeningView) (v a b : ℕ) (ns : List NeighbourView) →
    sessions_of (told_if_differs o v a b ns) ≡ sessions_of ns
sessions_told_one o v a b ns = map_told_if_differs (λ n. n.session) o v a b (λ _ _. refl) ns

pub sessions_told : (o : OpeningView) (old new : ℕ → ℕ) (v : ℕ) (ns : List NeighbourView) →
    sessions_of (tell_changes o old new v ns) ≡ sessions_of ns
sessions_told o old new v ns = map_told (λ n. n.session) o old new (λ _ _. refl) v ns

-- two places with one session are one place
one_place : (ps : List Present) (i j : ℕ) (d : Present) → AreRising ps → i < length ps → j < length ps →
    (get_or ps i d).session ≡ (get_or ps j d).session → i ≡ j
one_place ps i j d rising here there same = elim (cases_eq i j) [
  | inl is ↦ is
  | inr other ↦ elim (cases_lt i j) [
    | inl less ↦ absurd (omega (arith, rising i j d less there))
    | inr more ↦ let above : j < i = omega arith in absurd (omega (arith, rising j i d above here))
  ]
]

module _ (count : ℕ) (sessions : List (Option ℕ)) (ps : List Present) (are : ArePresent count sessions ps) where
  -- two nodes with one session are one node
  pub one_node : (j k s : ℕ) → session_in sessions k ≡ Some s → session_in sessions j ≡ Some s → j ≡ k
  one_node j k s has_k has_j =
      let at_j = are.listed j s has_j in
      let at_k = are.listed k s has_k in
      let pj = present s j in
      let pk = present s k in
      let shown : get_or ps at_k.0 pj ≡ pk = get_or_default ps at_k.0 pj pk at_k.1 ∙ at_k.2 in
      let place : at_j.0 ≡ at_k.0 = one_place ps at_j.0 at_k.0 pj are.rising at_j.1 at_k.1
      (ap (λ p. p.session) at_j.2 ∙ sym (ap (λ p. p.session) shown)) in
      ap (λ p. p.node) (sym at_j.2 ∙ ap (λ i. get_or ps i pj) place ∙ shown)

-- who holds a session is listed with it
module _ (count : ℕ) (ns : List NeighbourView) (ps : List Present) (are : ArePresent count (sessions_of ns) ps) (s : ℕ) where
  apart : AreApart ns
  apart j k t at_k at_j = one_node count (sessions_of ns) ps are j k t (session_at ns k ∙ at_k) (session_at ns j ∙ at_j)

  pub listed_holds : (i : ℕ) (d : Present) → i < length ps → (get_or ps i d).session ≡ s →
      position (has_session s) ns ≡ Some (get_or ps i d).node
  listed_holds i d h is =
      let p = get_or ps i d in
      let here = are.each i d h in
      holder_found ns s p.node apart (sym (session_at ns p.node) ∙ here.held ∙ ap Some is)

  pub unlisted : All (λ p. p.session ≢ s) ps → position (has_session s) ns ≡ None
  unlisted absent = holder_none ns s (λ k is.
      let here = are.listed k s (session_at ns k ∙ is) in
      absent here.0 (present s k) here.1 (ap (λ p. p.session) here.2))

-- the number of a session is 1 or more
pub session_numbered : (count : ℕ) (ns : List NeighbourView) (ps : List Present) (k : ℕ) (o : Option ℕ) →
    ArePresent count (sessions_of ns) ps → o ≡ (neighbour_at ns k).session → IfSome o (λ s. 0 < s)
session_numbered count ns ps k None are is = tt
session_numbered count ns ps k (Some s) are is =
    let here = are.listed k s (session_at ns k ∙ sym is) in
    subst (λ p. 0 < p.session) here.2 (are.each here.0 (present s k) here.1).numbered

-- no session yet
pub none_present : (o : OpeningView) (n : ℕ) (ns : List NeighbourView) → ns ≡ replicate n (newcomer o) →
    ArePresent 0 (sessions_of ns) []
none_present o n ns e = record {
  rising = λ i j d h short. absurd (omega arith);
  each = λ i d short. absurd (omega arith);
  listed = λ k s up. absurd (none-some s (sym (all_down n k) ∙ ap (λ ms. session_in (sessions_of ms) k) (sym e) ∙ up));
}
  where
    all_down : (n k : ℕ) → session_in (sessions_of (replicate n (newcomer o))) k ≡ None
    all_down zero k = refl
    all_down (suc n) zero = refl
    all_down (suc n) (suc k) = all_down n k

-- a session begins
pub one_more : (count k : ℕ) (sessions : List (Option ℕ)) (ps : List Present) → k < length sessions → session_in sessions k ≡ None →
    ArePresent count sessions ps → ArePresent (count + 1) (set sessions k (Some (count + 1))) (ps ++ present (count + 1) k ∷ [])
one_more count k sessions ps h down are = record {
  rising = all_pairs_push (λ p q. p.session < q.session) ps (present (count + 1) k) are.rising
      (λ i d short. omega (arith, (are.each i d short).opened));
  each = All-push (IsPresent (count + 1) (set sessions k (Some (count + 1)))) ps (present (count + 1) k)
      (All-weaker (IsPresent count sessions) (IsPresent (count + 1) (set sessions k (Some (count + 1)))) (λ p was. record {
        numbered = was.numbered;
        opened = omega (arith, was.opened);
        held =
            let other : p.node ≢ k = λ is.
            none-some p.session (sym down ∙ ap (λ i. session_in sessions i) (sym is) ∙ was.held) in
            get_or-set_other sessions k p.node (Some (count + 1)) None other ∙ was.held;
      }) ps are.each)
      (record { numbered = omega arith; opened = omega arith; held = get_or-set_same sessions k (Some (count + 1)) None h });
  listed = λ j s up. elim (cases_eq j k) [
    | inl is ↦
        let e : session_in (set sessions k (Some (count + 1))) j ≡ Some (count + 1) =
        ap (λ i. session_in (set sessions k (Some (count + 1))) i) is ∙ get_or-set_same sessions k (Some (count + 1)) None h in
        let number : count + 1 ≡ s = same_Some (count + 1) s (sym e ∙ up) in
        subst (Contains (ps ++ present (count + 1) k ∷ [])) (λ i. present (number i) (sym is i))
        (Contains-push ps (present (count + 1) k))
    | inr other ↦
        let e : session_in (set sessions k (Some (count + 1))) j ≡ session_in sessions j =
        get_or-set_other sessions k j (Some (count + 1)) None other in
        Contains-append_left ps (present (count + 1) k ∷ []) (present s j) (are.listed j s (sym e ∙ up))
  ];
}

-- what holds of each element but one
remove_each : {X : Type 0} (P : X → Type 0) (xs : List X) (i : ℕ) → i < length xs →
    ((j : ℕ) (d : X) → j < length xs → j ≢ i → P (get_or xs j d)) → All P (remove xs i)
remove_each P xs i h each j d short =
    let length_is = length-remove xs i h in
    elim (cases_lt j i) [
      | inl before ↦ subst P (sym (get_or-remove_below xs i d j before h)) (each j d (omega arith) (λ is. omega arith))
      | inr behind ↦ subst P (sym (get_or-remove_above xs i d j behind h)) (each (j + 1) d (omega arith) (λ is. omega arith))
    ]

contains_remove : {X : Type 0} (xs : List X) (i j : ℕ) (x : X) → i < length xs → j < length xs → get_or xs j x ≡ x → j ≢ i →
    Contains (remove xs i) x
contains_remove xs i j x h short at other =
    let length_is = length-remove xs i h in
    elim (cases_lt j i) [
      | inl before ↦ (j, omega arith, get_or-remove_below xs i x j before h ∙ at)
      | inr behind ↦
          let above : j - 1 + 1 ≡ j = omega arith in
          (j - 1, omega arith, get_or-remove_above xs i x (j - 1) (omega arith) h ∙ ap (λ k. get_or xs k x) above ∙ at)
    ]

-- a session is over
pub one_less : (count i k s : ℕ) (sessions : List (Option ℕ)) (ps : List Present) → i < length ps →
    HoldsAt (λ p. p.session ≡ s) ps i → session_in sessions k ≡ Some s → ArePresent count sessions ps →
    ArePresent count (set sessions k None) (remove ps i)
one_less count i k s sessions ps h here held are =
    let not_here : (j : ℕ) (d : Present) → j < length ps → j ≢ i → (get_or ps j d).session ≢ s =
    λ j d short other is. other (one_place ps j i d are.rising short h (is ∙ sym (here d))) in
    record {
      rising = all_pairs_remove (λ p q. p.session < q.session) ps i h are.rising;
      each = remove_each (IsPresent count (set sessions k None)) ps i h (λ j d short other.
          let was = are.each j d short in
          let apart : (get_or ps j d).node ≢ k =
          λ is. not_here j d short other (same_Some (get_or ps j d).session s
          (sym was.held ∙ ap (λ n. session_in sessions n) is ∙ held)) in
          record {
            numbered = was.numbered;
            opened = was.opened;
            held = get_or-set_other sessions k (get_or ps j d).node None None apart ∙ was.held;
          });
      listed = λ j t there. elim (cases_eq j k) [
        | inl is ↦
            absurd (none-some t (sym (gone k sessions) ∙ ap (λ n. session_in (set sessions k None) n) (sym is) ∙ there))
        | inr other ↦
            let e : session_in (set sessions k None) j ≡ session_in sessions j = get_or-set_other sessions k j None None other in
            let p = present t j in
            let was = are.listed j t (sym e ∙ there) in
            let apart : was.0 ≢ i = λ is.
            other (one_node count sessions ps are j k s held
            (sym e ∙ there ∙ ap (λ q. Some q.session) (sym was.2 ∙ ap (λ n. get_or ps n p) is) ∙ ap Some (here p))) in
            contains_remove ps i was.0 p h was.1 was.2 apart
      ];
    }
  where
    gone : (k : ℕ) (xs : List (Option ℕ)) → session_in (set xs k None) k ≡ None
    gone k [] = refl
    gone zero (x ∷ xs) = refl
    gone (suc k) (x ∷ xs) = gone k xs
