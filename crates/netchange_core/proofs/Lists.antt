-- On lists.
use Rattle.std.proofs.Common.{◌≡◌, ◌∙◌, ℕ, ◌+◌, ◌<◌, ◌≤◌, zero, suc, List, [], ◌∷◌, ◌++◌, length, map, replicate, take, refl, ap, sym}
use Rattle.std.proofs.Common.{All, get_or, arith, le_refl, add-one}
use Rattle.std.proofs.Math.Seq.{take-suc}
use Rattle.std.proofs.lemmas.List.{get_or-replicate, length-replicate, same_lists}

-- one more of an element at the end
pub replicate_more : {X : Type 0} (n : ℕ) (x : X) → replicate n x ++ x ∷ [] ≡ replicate (suc n) x
replicate_more zero x = refl
replicate_more (suc n) x = ap (λ ys. x ∷ ys) (replicate_more n x)

pub map_more : {X Y : Type 0} (f : X → Y) (xs : List X) (x : X) → map f (xs ++ x ∷ []) ≡ map f xs ++ f x ∷ []
map_more f [] x = refl
map_more f (y ∷ xs) x = ap (λ ys. f y ∷ ys) (map_more f xs x)

-- no element of a list that repeats one number is above it
pub below_repeated : (n m v : ℕ) → get_or (replicate n m) v 0 ≤ m
below_repeated zero m v = omega arith
below_repeated (suc n) m zero = le_refl m
below_repeated (suc n) m (suc v) = below_repeated n m v

-- a list of one number, many times
pub all_repeated : (n m : ℕ) (xs : List ℕ) → length xs ≡ n → All (λ x. x ≡ m) xs → xs ≡ replicate n m
all_repeated n m xs long all =
    same_lists xs (replicate n m) (long ∙ sym (length-replicate n m))
    (λ k d h. all k d h ∙ sym (get_or-replicate n k m d (omega arith)))

-- the images of what a loop has passed, and of one element more
pub map_taken : {X Y : Type 0} (f : X → Y) (xs : List X) (k : ℕ) (d : X) → k < length xs →
    map f (take k xs) ++ f (get_or xs k d) ∷ [] ≡ map f (take (k + 1) xs)
map_taken f xs k d h =
    sym (map_more f (take k xs) (get_or xs k d)) ∙ ap (λ ys. map f ys) (sym (take-suc xs k d h))
    ∙ ap (λ j. map f (take j xs)) (sym (add-one k))

-- images of images
pub map_both : {X Y Z : Type 0} (f : Y → Z) (g : X → Y) (xs : List X) → map (λ x. f (g x)) xs ≡ map f (map g xs)
map_both f g [] = refl
map_both f g (x ∷ xs) = ap (λ ys. f (g x) ∷ ys) (map_both f g xs)
