-- A list with one element replaced.
use Rattle.std.proofs.Common.{◌≡◌, ⊎_elim, ℕ, ◌+◌, ◌<◌, ◌≤◌, List, length, slice_index_or, slice_set}
use Rattle.std.proofs.Common.{get_or-set_same, get_or-set_other, subst, sym, arith}
use Rattle.std.proofs.lemmas.Bool.{cases_eq}

-- what holds of the element, and of each one before it
pub below_set : {X : Type 0} (P : ℕ → X → Type 0) (xs : List X) (k : ℕ) (x d : X) → k < length xs → P k x →
    ((j : ℕ) → j < k → P j (slice_index_or xs j d)) → (j : ℕ) → j < k + 1 → P j (slice_index_or (slice_set xs k x) j d)
below_set P xs k x d short here below j h =
    ⊎_elim (λ (same : j ≡ k).
    subst (λ n. P n (slice_index_or (slice_set xs k x) n d)) (sym same)
    (subst (P k) (sym (get_or-set_same xs k x d short)) here))
    (λ (other : j ≡ k → ⊥).
    subst (P j) (sym (get_or-set_other xs k j x d other)) (below j (omega arith))) (cases_eq j k)

-- the elements behind it
pub behind_set : {X : Type 0} (xs : List X) (k : ℕ) (x d : X) (j : ℕ) → k + 1 ≤ j →
    slice_index_or (slice_set xs k x) j d ≡ slice_index_or xs j d
behind_set xs k x d j h = get_or-set_other xs k j x d (λ (e : j ≡ k). omega arith)

-- what holds of the element, and of each other one
pub set_each : {X : Type 0} (P : ℕ → X → Type 0) (xs : List X) (k : ℕ) (x d : X) → k < length xs → P k x →
    ((j : ℕ) → (j ≡ k → ⊥) → P j (slice_index_or xs j d)) → (j : ℕ) → P j (slice_index_or (slice_set xs k x) j d)
set_each P xs k x d short here there j =
    ⊎_elim (λ (same : j ≡ k).
    subst (λ n. P n (slice_index_or (slice_set xs k x) n d)) (sym same)
    (subst (P k) (sym (get_or-set_same xs k x d short)) here))
    (λ (other : j ≡ k → ⊥).
    subst (P j) (sym (get_or-set_other xs k j x d other)) (there j other)) (cases_eq j k)
