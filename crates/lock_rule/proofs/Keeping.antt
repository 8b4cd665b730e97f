-- The rule after a change of one view.
use Rattle.std.proofs.Common.{◌≡◌, sym, ap, refl, subst, ℕ, zero, suc, ◌+◌, ◌<◌, ◌≤◌, ⊎_elim}
use Rattle.std.proofs.Common.{Some, None, Option, List, [], ◌∷◌, ◌++◌, length, set, arith}
use Rattle.std.proofs.lemmas.Bool.Decides.{nat_tests}
use mathlib.Core.Option.{some, some-ne-none}
use lib.ListN.{get_elem?}
use Rattle.atomic_table.proofs.Lists.{at_set}
use Rattle.netchange_core.specs.OpeningView.{OpeningView}
use Rattle.route_history.specs.declared.bounds.Bounds.{Bounds}
use Rattle.route_history.specs.declared.entry.Entry.{Entry}
use Rattle.route_history.specs.Beginning.{Begins}
use Rattle.route_history.specs.Positions.{once_below, times}
use Rattle.lock_rule.specs.declared.rule.Fragment.{Fragment}
use Rattle.lock_rule.specs.declared.rule.View.{View}
use Rattle.lock_rule.specs.Views.{empty_view, right_of, shares_of, times_in_view}
use Rattle.lock_rule.specs.Rule.{AreKnown, Fits, Knows, Sees, total}
use Rattle.lock_rule.proofs.Totals.{total_set}
use Rattle.lock_rule.proofs.Prefixes.{further}

pub times_append : (x : ℕ) (xs ys : List ℕ) → times x (xs ++ ys) ≡ times x xs + times x ys
times_append x [] ys = omega arith
times_append x (y ∷ xs) ys = omega (arith, times_append x xs ys)

pub once_more : (x n : ℕ) → once_below x n + times x (n ∷ []) ≡ once_below x (n + 1)
once_more x n = grind (arith, nat_tests)

-- a position stands at most once below any length, and not from the length on
pub once_at_most : (x n : ℕ) → once_below x n ≤ 1
once_at_most x n = grind (arith, nat_tests)

pub once_within : (x n : ℕ) → 0 < once_below x n → x < n
once_within x n h = grind (arith, nat_tests)

pub there_below : (views : List View) (k : ℕ) (v : View) → get_elem? views k ≡ some v → k < length views
there_below [] k v at = absurd (some-ne-none v (sym at))
there_below (x ∷ xs) zero v at = omega arith
there_below (x ∷ xs) (suc k) v at = let below = there_below xs k v at in omega arith

pub sees_on : (log grown : List Entry) (p : Fragment) → Begins log grown → Sees log p → Sees grown p
sees_on log grown p on h = record { begins = further p.seen log grown h.begins on; within = h.within }

pub fits_on : (o : OpeningView) (l : Bounds) (log grown : List Entry) (v : View) → Begins log grown → Fits o l log v → Fits o l grown v
fits_on o l log grown v on h = record {
  fragment = sees_on log grown v.fragment on h.fragment;
  incoming = sees_on log grown v.incoming on h.incoming;
  about = h.about;
  empty = h.empty;
}

-- one view is set, and the history may grow
pub known_set : (o : OpeningView) (l : Bounds) (log grown : List Entry) (views : List View) (k : ℕ) (v w : View) →
    get_elem? views k ≡ some v → AreKnown o l log views → Begins log grown → Fits o l grown w → shares_of w ≡ shares_of v →
    ((x : ℕ) → times_in_view x w + once_below x (length log) ≡ times_in_view x v + once_below x (length grown)) → AreKnown o l grown (set views k w)
known_set o l log grown views k v w at known on fits same moved = record {
  fits = λ j u there. ⊎_elim (λ t. subst (λ (z : View). Fits o l grown z) t.1 fits)
      (λ t. fits_on o l log grown u on (known.fits j u t.1)) (at_set views k j w u there);
  shares = let sum = total_set shares_of views k v w at in let all = known.shares in omega arith;
  once = λ x. let sum = total_set (times_in_view x) views k v w at in let one = known.once x in let by = moved x in omega arith;
}

-- a view that holds a history has shares
pub holder_has_shares : (o : OpeningView) (l : Bounds) (log es : List Entry) (v : View) → Fits o l log v → v.held ≡ Some es → 0 < shares_of v
holder_has_shares o l log es v fits held = positive (shares_of v) (λ e. none_is_no_history (fits.empty e))
  where
    positive : (n : ℕ) → (n ≡ 0 → ⊥) → 0 < n
    positive zero h = absurd (h refl)
    positive (suc n) h = omega arith

    none_is_no_history : v ≡ empty_view → ⊥
    none_is_no_history e = let none_held : v.held ≡ None = ap (λ (u : View). u.held) e in both none_held held
      where
        both : {A : Type 0} {x : Option A} {a : A} → x ≡ None → x ≡ Some a → ⊥
        both p q = cc

-- one view is set, and what all know stays right
pub knows_set : (first : ℕ) (views : List View) (k : ℕ) (w : View) → Knows first w →
    ((j : ℕ) (u : View) → get_elem? views j ≡ some u → Knows first u) →
    (j : ℕ) (u : View) → get_elem? (set views k w) j ≡ some u → Knows first u
knows_set first views k w here before j u there =
    ⊎_elim (λ t. subst (λ (z : View). Knows first z) t.1 here) (λ t. before j u t.1) (at_set views k j w u there)

-- and at most one has the right to forget
pub right_set : (views : List View) (k : ℕ) (v w : View) → get_elem? views k ≡ some v → w.right ≡ v.right → total right_of views ≤ 1 →
    total right_of (set views k w) ≤ 1
right_set views k v w at same most =
    let sum : total right_of (set views k w) + v.right ≡ total right_of views + w.right = total_set right_of views k v w at in omega arith
