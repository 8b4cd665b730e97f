-- Sums over the views of all seats.
use Rattle.std.proofs.Common.{◌≡◌, sym, ap, refl, ℕ, zero, suc, ◌+◌, ◌≤◌, ◌≢◌, List, [], ◌∷◌, ◌++◌, set, arith}
use mathlib.Core.Option.{some, some-injective, some-ne-none}
use lib.ListN.{get_elem?}
use Rattle.lock_rule.specs.declared.rule.View.{View}
use Rattle.lock_rule.specs.Rule.{total}

-- the sum after a change of one view
pub total_set : (f : View → ℕ) (views : List View) (k : ℕ) (v w : View) → get_elem? views k ≡ some v →
    total f (set views k w) + f v ≡ total f views + f w
total_set f [] k v w at = absurd (some-ne-none v (sym at))
total_set f (x ∷ xs) zero v w at = let is : f x ≡ f v = ap f (some-injective x v at) in omega arith
total_set f (x ∷ xs) (suc k) v w at = let rest = total_set f xs k v w at in omega arith

pub total_append : (f : View → ℕ) (views : List View) (w : View) → total f (views ++ w ∷ []) ≡ total f views + f w
total_append f [] w = omega arith
total_append f (x ∷ xs) w = let rest = total_append f xs w in omega arith

-- one view has no more than all
pub total_one : (f : View → ℕ) (views : List View) (k : ℕ) (v : View) → get_elem? views k ≡ some v → f v ≤ total f views
total_one f [] k v at = absurd (some-ne-none v (sym at))
total_one f (x ∷ xs) zero v at = let is : f x ≡ f v = ap f (some-injective x v at) in omega arith
total_one f (x ∷ xs) (suc k) v at = let rest = total_one f xs k v at in omega arith

-- two views have no more than all
pub total_two : (f : View → ℕ) (views : List View) (j k : ℕ) (v w : View) → get_elem? views j ≡ some v → get_elem? views k ≡ some w →
    j ≢ k → f v + f w ≤ total f views
total_two f [] j k v w a b apart = absurd (some-ne-none v (sym a))
total_two f (x ∷ xs) zero zero v w a b apart = absurd (apart refl)
total_two f (x ∷ xs) zero (suc k) v w a b apart =
    let is : f x ≡ f v = ap f (some-injective x v a) in let rest = total_one f xs k w b in omega arith
total_two f (x ∷ xs) (suc j) zero v w a b apart =
    let is : f x ≡ f w = ap f (some-injective x w b) in let rest = total_one f xs j v a in omega arith
total_two f (x ∷ xs) (suc j) (suc k) v w a b apart = let rest = total_two f xs j k v w a b (λ e. apart (ap suc e)) in omega arith

-- where each other view has nothing, one view has all
pub total_none : (f : View → ℕ) (views : List View) → ((k : ℕ) (v : View) → get_elem? views k ≡ some v → f v ≡ 0) → total f views ≡ 0
total_none f [] none_has = refl
total_none f (x ∷ xs) none_has =
    let here = none_has 0 x refl in let rest = total_none f xs (λ k v at. none_has (suc k) v at) in omega arith

pub total_alone : (f : View → ℕ) (views : List View) (k : ℕ) (v : View) → get_elem? views k ≡ some v →
    ((j : ℕ) (w : View) → get_elem? views j ≡ some w → j ≢ k → f w ≡ 0) → total f views ≡ f v
total_alone f [] k v at others = absurd (some-ne-none v (sym at))
total_alone f (x ∷ xs) zero v at others =
    let is : f x ≡ f v = ap f (some-injective x v at) in
    let rest = total_none f xs (λ j w there. others (suc j) w there (λ e. absurd (omega arith))) in omega arith
total_alone f (x ∷ xs) (suc k) v at others =
    let here = others 0 x refl (λ e. absurd (omega arith)) in
    let rest = total_alone f xs k v at (λ j w there apart. others (suc j) w there (λ e. apart (omega arith))) in omega arith
