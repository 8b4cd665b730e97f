-- The list of the present sessions, made by inserting one after another.
use Rattle.std.proofs.Common.{◌≡◌, ap, ℕ, ◌+◌, ◌-◌, ◌<◌, ◌≤◌, ◌∙◌, sym, subst, inl, inr, Option, Some, None}
use Rattle.std.proofs.Common.{List, [], length, get_or, All, Contains, arith}
use Rattle.std.specs.List.{AllPairs, HoldsAt, insert}
use Rattle.std.proofs.lemmas.Bool.{cases_eq, cases_lt}
use Rattle.std.proofs.lemmas.List.{get_or_past}
use Rattle.std.proofs.lemmas.List.Edits.{get_or-insert_above, get_or-insert_at, get_or-insert_below, length-insert}
use Rattle.std.proofs.lemmas.Option.{none-some, same_Some}
use Rattle.netchange_core.specs.declared.sessions.Present.{Present}
use Rattle.netchange_core.specs.Consistent.{AreSessions}
use Rattle.netchange_core.specs.Present.{ArePresent, AreRising, IsInserted, IsPresent, present, session_in}
use Rattle.netchange_core.proofs.Presence.{one_node}

-- the list has the present sessions of the nodes below a number
pub record ArePresentBelow (n count : ℕ) (sessions : List (Option ℕ)) (ps : List Present) : Type 0 where
  pub rising : AreRising ps
  pub each : All (λ p. IsPresent count sessions p × (p.node < n)) ps
  pub listed : (k s : ℕ) → k < n → session_in sessions k ≡ Some s → Contains ps (present s k)

pub none_below : (count : ℕ) (sessions : List (Option ℕ)) → ArePresentBelow 0 count sessions []
none_below count sessions = record {
  rising = λ i j d h short. absurd (omega arith);
  each = λ i d short. absurd (omega arith);
  listed = λ k s below. absurd (omega arith);
}

-- a list into which an element was inserted
module _ {X : Type 0} (xs : List X) (at : ℕ) (x : X) (h : at ≤ length xs) where
  behind_at : (k : ℕ) (d : X) → at < k → get_or (insert xs at x) k d ≡ get_or xs (k - 1) d
  behind_at k d behind =
      let same : k ≡ k - 1 + 1 = omega arith in
      ap (λ m. get_or (insert xs at x) m d) same ∙ get_or-insert_above xs at x d (k - 1) (omega arith) h

  insert_each : (P : X → Type 0) → All P xs → P x → All P (insert xs at x)
  insert_each P all here k d short =
      let length_is = length-insert xs at x h in
      elim (cases_lt k at) [
        | inl before ↦ subst P (sym (get_or-insert_below xs at x d k before h)) (all k d (omega arith))
        | inr late ↦ elim (cases_eq k at) [
          | inl is ↦ subst P (sym (ap (λ m. get_or (insert xs at x) m d) is ∙ get_or-insert_at xs at x d h)) here
          | inr other ↦ subst P (sym (behind_at k d (omega arith))) (all (k - 1) d (omega arith))
        ]
      ]

  insert_contains : (y : X) → Contains xs y → Contains (insert xs at x) y
  insert_contains y there =
      let length_is = length-insert xs at x h in
      elim (cases_lt there.0 at) [
        | inl before ↦ (there.0, omega (arith, there.1), get_or-insert_below xs at x y there.0 before h ∙ there.2)
        | inr late ↦ (there.0 + 1, omega (arith, there.1), get_or-insert_above xs at x y there.0 late h ∙ there.2)
      ]

  insert_there : Contains (insert xs at x) x
  insert_there = let length_is = length-insert xs at x h in (at, omega arith, get_or-insert_at xs at x x h)

  insert_pairs : (R : X → X → Type 0) → AllPairs R xs → ((i : ℕ) (d : X) → i < at → R (get_or xs i d) x) →
      ((i : ℕ) (d : X) → at ≤ i → i < length xs → R x (get_or xs i d)) → AllPairs R (insert xs at x)
  insert_pairs R pairs below above i j d less short =
      let length_is = length-insert xs at x h in
      let ys = insert xs at x in
      elim (cases_lt j at) [
        | inl before ↦
            as_are (get_or-insert_below xs at x d i (omega arith) h) (get_or-insert_below xs at x d j before h)
            (pairs i j d less (omega arith))
        | inr late ↦ elim (cases_eq j at) [
          | inl is ↦
              as_are (get_or-insert_below xs at x d i (omega arith) h) (ap (λ m. get_or ys m d) is ∙ get_or-insert_at xs at x d h)
              (below i d (omega arith))
          | inr other ↦ elim (cases_lt i at) [
            | inl before ↦
                as_are (get_or-insert_below xs at x d i before h) (behind_at j d (omega arith)) (pairs i (j - 1) d (omega arith) (omega arith))
            | inr not_before ↦ elim (cases_eq i at) [
              | inl here ↦
                  as_are (ap (λ m. get_or ys m d) here ∙ get_or-insert_at xs at x d h) (behind_at j d (omega arith))
                  (above (j - 1) d (omega arith) (omega arith))
              | inr behind ↦
                  as_are (behind_at i d (omega arith)) (behind_at j d (omega arith)) (pairs (i - 1) (j - 1) d (omega arith) (omega arith))
            ]
          ]
        ]
      ]
    where
      as_are : {a b c e : X} → a ≡ c → b ≡ e → R c e → R a b
      as_are {a} {b} {c} {e} p q r = subst (λ y. R y b) (sym p) (subst (R c) (sym q) r)

module _ (n count : ℕ) (sessions : List (Option ℕ)) (ps : List Present) (are : ArePresentBelow n count sessions ps) where
  -- one more node, which is down
  pub down_more : session_in sessions n ≡ None → ArePresentBelow (n + 1) count sessions ps
  down_more down = record {
    rising = are.rising;
    each = λ i d short. let was = are.each i d short in (was.0, omega (arith, was.1));
    listed = λ k s below up. elim (cases_eq k n) [
      | inl is ↦ absurd (none-some s (sym down ∙ ap (λ i. session_in sessions i) (sym is) ∙ up))
      | inr other ↦ are.listed k s (omega arith) up
    ];
  }

  module _ (s : ℕ) (held : session_in sessions n ≡ Some s) where
    -- one more node, which is up in a new session
    pub up_more : (qs : List Present) → 0 < s → s ≤ count → IsInserted (present s n) ps qs → ArePresentBelow (n + 1) count sessions qs
    up_more qs numbered opened put = subst (ArePresentBelow (n + 1) count sessions) (sym put.is) (record {
      rising = insert_pairs ps put.at (present s n) put.within (λ p q. p.session < q.session) are.rising put.below put.above;
      each = insert_each ps put.at (present s n) put.within (λ p. IsPresent count sessions p × (p.node < n + 1))
          (λ i d short. let was = are.each i d short in (was.0, omega (arith, was.1)))
          (record { numbered = numbered; opened = opened; held = held }, omega arith);
      listed = λ k t below up. elim (cases_eq k n) [
        | inl is ↦
            let same : s ≡ t = same_Some s t (sym held ∙ ap (λ i. session_in sessions i) (sym is) ∙ up) in
            subst (Contains (insert ps put.at (present s n))) (λ i. present (same i) (sym is i))
            (insert_there ps put.at (present s n) put.within)
        | inr other ↦ insert_contains ps put.at (present s n) put.within (present t k) (are.listed k t (omega arith) up)
      ];
    })

    -- two nodes do not have the same session
    pub up_twice : ((i : ℕ) × (i < length ps) × HoldsAt (λ p. p.session ≡ s) ps i) → AreSessions count sessions → ⊥
    up_twice here apart =
        let p = get_or ps here.0 (present 0 0) in
        let was = are.each here.0 (present 0 0) here.1 in
        let same : p.node ≡ n = apart.apart p.node n s (was.0.held ∙ ap Some (here.2 (present 0 0))) held in
        omega (arith, same, was.1)

  -- after the last node
  pub all_below : length sessions ≤ n → ArePresent count sessions ps
  all_below all = record {
    rising = are.rising;
    each = λ i d short. (are.each i d short).0;
    listed = λ k s up. elim (cases_lt k n) [
      | inl below ↦ are.listed k s below up
      | inr past ↦ absurd (none-some s (sym (get_or_past sessions k None (omega arith)) ∙ up))
    ];
  }

-- sessions that are listed are opened ones, and apart
pub present_sessions : (count : ℕ) (sessions : List (Option ℕ)) (ps : List Present) → ArePresent count sessions ps →
    AreSessions count sessions
present_sessions count sessions ps are = record {
  numbered = λ k s up.
      let here = are.listed k s up in
      let was = are.each here.0 (present s k) here.1 in
      subst (λ p. (0 < p.session) × (p.session ≤ count)) here.2 (was.numbered, was.opened);
  apart = λ j k s at_j at_k. one_node count sessions ps are j k s at_k at_j;
}
