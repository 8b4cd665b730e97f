-- The instructions of which the search is asked.
use Rattle.std.proofs.Common.{◌≡◌, ℕ, zero, suc, ◌+◌, Bool, List, [], ◌∷◌, ◌++◌, length, refl, sym, ap, ◌∙◌, add-one, arith, length-append}
use Rattle.filter_lint.specs.Watching.{watched}

watched_suc : (is : ℕ → Bool) (n : ℕ) → watched is (suc n) ≡ watched is n ++ (is n ∷ [])
unfolding watched
watched_suc is n = refl

-- none yet
pub none_watched : (is : ℕ → Bool) → watched is 0 ≡ []
unfolding watched
none_watched is = refl

-- one instruction more
pub one_watched : (is : ℕ → Bool) (n : ℕ) (before after : List Bool) (b : Bool) → before ≡ watched is n → b ≡ is n
    → after ≡ before ++ (b ∷ []) → after ≡ watched is (n + 1)
one_watched is n before after b so_far said grown =
    grown ∙ (ap (λ (all : List Bool). all ++ (b ∷ [])) so_far ∙ (ap (λ (c : Bool). watched is n ++ (c ∷ [])) said
    ∙ (sym (watched_suc is n) ∙ ap (watched is) (sym (add-one n)))))

-- as many as there are
pub length-watched : (is : ℕ → Bool) (n : ℕ) → length (watched is n) ≡ n
unfolding watched
length-watched is zero = refl
length-watched is (suc n) = omega (arith, length-append (watched is n) (is n ∷ []), length-watched is n)
