-- A list whose first elements were changed by a function, as a loop leaves it.
use Rattle.std.proofs.Common.{◌≡◌, ℕ, ◌<◌, zero, suc, List, [], ◌∷◌, length, map, slice_index_or, slice_set, refl, ap, arith}

abbrev pub mapped : {X : Type 0} → (X → X) → ℕ → List X → List X
mapped f zero xs = xs
mapped f (suc k) [] = []
mapped f (suc k) (x ∷ xs) = f x ∷ mapped f k xs

pub mapped_more : {X : Type 0} (f : X → X) (k : ℕ) (xs : List X) (d : X) → k < length xs →
    slice_set (mapped f k xs) k (f (slice_index_or xs k d)) ≡ mapped f (suc k) xs
mapped_more f k [] d h = absurd (omega arith)
mapped_more f zero (x ∷ xs) d h = refl
mapped_more f (suc k) (x ∷ xs) d h = ap (λ ys. f x ∷ ys) (mapped_more f k xs d (omega arith))

pub mapped_all : {X : Type 0} (f : X → X) (xs : List X) → mapped f (length xs) xs ≡ map f xs
mapped_all f [] = refl
mapped_all f (x ∷ xs) = ap (λ ys. f x ∷ ys) (mapped_all f xs)
