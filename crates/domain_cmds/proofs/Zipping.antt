-- What is said of each of some things, and of one more.
use Rattle.std.proofs.Common.{◌≡◌, ℕ, ◌+◌, ◌<◌, List, [], ◌∷◌, ◌++◌, length, get_or, take, map, sym, ap, subst₂, ◌∙◌}
use Rattle.std.proofs.lemmas.List.{map-append, take_more}
use Rattle.std.specs.List.{AllZip}

zip_push : {A B : Type 0} (R : A → B → Type 0) (xs : List A) (ys : List B) (x : A) (y : B) → AllZip R xs ys → R x y
    → AllZip R (xs ++ x ∷ []) (ys ++ y ∷ [])
zip_push R [] [] x y h r = (r, tt)
zip_push R [] (b ∷ ys) x y h r = absurd h
zip_push R (a ∷ xs) [] x y h r = absurd h
zip_push R (a ∷ xs) (b ∷ ys) x y h r = (h.0, zip_push R xs ys x y h.1 r)

-- those up to a place, and the one there
pub zip_more : {A B C : Type 0} (R : A → B → Type 0) (f : C → B) (xs : List A) (ys : List C) (i : ℕ) (x : A) (y : C) → i < length xs
    → x ≡ get_or xs i x → AllZip R (take i xs) (map f ys) → R x (f y) → AllZip R (take (i + 1) xs) (map f (ys ++ y ∷ []))
zip_more {A} {B} R f xs ys i x y short is h r =
    let more : take (i + 1) xs ≡ take i xs ++ x ∷ [] = take_more xs i x short ∙ ap (λ (z : A). take i xs ++ z ∷ []) (sym is) in
    subst₂ (λ (l : List A) (m : List B). AllZip R l m) (sym more) (sym (map-append f ys (y ∷ [])))
    (zip_push R (take i xs) (map f ys) x (f y) h r)
