-- What holds below a number, and below the next.
use Rattle.std.proofs.Common.{◌≡◌, ℕ, ◌+◌, ◌<◌, ◌≤◌, ◌⊎◌, List, Option, Some, subst, sym, inl, inr, arith}
use Rattle.std.specs.Prelude.{slice_get}

pub below_or_at : (k n : ℕ) → k < n + 1 → (k < n) ⊎ (k ≡ n)
below_or_at k n h = grind arith

pub one_more : (P : ℕ → Type 0) (n : ℕ) → ((k : ℕ) → k < n → P k) → P n → (k : ℕ) → k < n + 1 → P k
one_more P n before at k below =
    elim (below_or_at k n below) [
      | inl earlier ↦ before k earlier
      | inr same ↦ subst P (sym same) at
    ]

-- the same from a number on
pub one_more_from : (P : ℕ → Type 0) (from n : ℕ) → ((k : ℕ) → from ≤ k → k < n → P k) → P n → (k : ℕ) → from ≤ k → k < n + 1 → P k
one_more_from P from n before at k after below = one_more (λ k. from ≤ k → P k) n (λ k earlier after. before k after earlier) (λ _. at) k below after

pub same_some : {A : Type 0} (found : Option A) (x y : A) → found ≡ Some x → found ≡ Some y → x ≡ y
same_some found x y one other = cc

-- none of so many things has it, nor one more
pub none_more : {A : Type 0} (P : A → Type 0) (xs : List A) (n : ℕ) (there : A) → slice_get xs n ≡ Some there → (P there → ⊥)
    → ((k : ℕ) (x : A) → k < n → slice_get xs k ≡ Some x → P x → ⊥) → (k : ℕ) (x : A) → k < n + 1 → slice_get xs k ≡ Some x → P x → ⊥
none_more {A} P xs n there is not before k x below at has =
    one_more (λ k. (x : A) → slice_get xs k ≡ Some x → P x → ⊥) n (λ k below x. before k x below)
    (λ x at has. not (subst P (same_some (slice_get xs n) x there at is) has)) k below x at has
