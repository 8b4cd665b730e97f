-- Lists that begin others, and positions that are shared out.
use Rattle.std.proofs.Common.{◌≡◌, ◌∙◌, sym, ap, refl, ℕ, zero, suc, ◌+◌, ◌<◌, ◌⊎◌, inl, inr, List, [], ◌∷◌, ◌++◌, length, slice_set, arith}
use Rattle.std.proofs.lemmas.Bool.Decides.{nat_tests}
use Rattle.std.specs.Prelude.{slice_index_or}
use Rattle.route_history.specs.Beginning.{Begins}
use Rattle.route_history.specs.Positions.{AreSharedOut, once_below, times, times_in_all}

further : {A : Type 0} (x y : A) (xs ys zs rest : List A) → x ∷ zs ≡ y ∷ (ys ++ rest) → Begins xs zs → Begins xs (ys ++ rest)
further x y xs ys zs rest e h = record { rest = h.rest; is = cc }

-- of two beginnings of one list one begins the other
pub nested : {A : Type 0} (xs ys zs : List A) → Begins xs zs → Begins ys zs → Begins xs ys ⊎ Begins ys xs
nested [] ys zs a b = inl (record { rest = ys; is = refl })
nested (x ∷ xs) [] zs a b = inr (record { rest = x ∷ xs; is = refl })
nested (x ∷ xs) (y ∷ ys) zs a b =
    let same : x ∷ (xs ++ a.rest) ≡ y ∷ (ys ++ b.rest) = sym a.is ∙ b.is in
    let heads : x ≡ y = cc in
    let tails : ys ++ b.rest ≡ xs ++ a.rest = cc in
    elim (nested xs ys (ys ++ b.rest) (record { rest = a.rest; is = tails }) (record { rest = b.rest; is = refl })) [
      | inl h ↦ inl (record { rest = h.rest; is = λ i. sym heads i ∷ h.is i })
      | inr h ↦ inr (record { rest = h.rest; is = λ i. heads i ∷ h.is i })
    ]

times_append : (x : ℕ) (xs ys : List ℕ) → times x (xs ++ ys) ≡ times x xs + times x ys
times_append x [] ys = omega arith
times_append x (y ∷ xs) ys = omega (arith, times_append x xs ys)

in_all : (x k n : ℕ) (lists : List (List ℕ)) → k < length lists →
    times_in_all x (slice_set lists k (slice_index_or lists k [] ++ n ∷ [])) ≡ times_in_all x lists + times x (n ∷ [])
in_all x k n [] h = absurd (omega arith)
in_all x zero n (ys ∷ rest) h = omega (arith, times_append x ys (n ∷ []))
in_all x (suc k) n (ys ∷ rest) h = omega (arith, in_all x k n rest (omega arith))

once_more : (x n : ℕ) → once_below x n + times x (n ∷ []) ≡ once_below x (n + 1)
once_more x n = grind (arith, nat_tests)

-- a new entry's position joins one list
pub shared_on : (n k : ℕ) (lists : List (List ℕ)) → AreSharedOut n lists → k < length lists →
    AreSharedOut (n + 1) (slice_set lists k (slice_index_or lists k [] ++ n ∷ []))
shared_on n k lists shared h = λ x. in_all x k n lists h ∙ ap (λ m. m + times x (n ∷ [])) (shared x) ∙ once_more x n
