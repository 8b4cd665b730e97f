-- How often a test passes in a list that is one longer.
use Rattle.std.proofs.Common.{◌≡◌, ℕ, ◌+◌, ◌≤◌, ◌||◌, Bool, true, false, cond, List, [], ◌∷◌, ◌++◌, refl, ap, ◌∙◌, zero-add, arith}
use Rattle.std.specs.List.{count_by, list_any}
use Rattle.std.proofs.lemmas.List.Folds.{list_any-append}
use Rattle.std.proofs.lemmas.List.Sums.{sum_by-append, sum_by-cons}

abbrev one : Bool → ℕ
one b = cond b 1 0

module _ {X : Type 0} (p : X → Bool) where
  -- where none passes, none is counted
  none_first : (b : Bool) (x : X) (xs : List X) → p x ≡ b → (b || list_any p xs) ≡ false → (list_any p xs ≡ false → count_by p xs ≡ 0)
      → count_by p (x ∷ xs) ≡ 0
  none_first true x xs e fails rest = cc
  none_first false x xs e fails rest =
      sum_by-cons (λ y. cond (p y) 1 0) x xs ∙ ap (λ (b : Bool). one b + count_by p xs) e ∙ zero-add (count_by p xs) ∙ rest fails

  none_counted : (xs : List X) → list_any p xs ≡ false → count_by p xs ≡ 0
  none_counted [] h = refl
  none_counted (x ∷ xs) h = none_first (p x) x xs refl h (none_counted xs)

  pub counted_more : (xs : List X) (x : X) → count_by p (xs ++ x ∷ []) ≡ count_by p xs + one (p x)
  counted_more xs x =
      sum_by-append (λ y. cond (p y) 1 0) xs (x ∷ []) ∙ ap (λ (n : ℕ). count_by p xs + n) (zero-add (one (p x)))

  -- at most one still passes, where the new one passes only if none did
  pub still_one : (xs : List X) (x : X) → count_by p xs ≤ 1 → (p x ≡ true → list_any p xs ≡ false) → count_by p (xs ++ x ∷ []) ≤ 1
  still_one xs x few first = split (p x) refl
    where
      split : (b : Bool) → p x ≡ b → count_by p (xs ++ x ∷ []) ≤ 1
      split true e =
          let before = none_counted xs (first e) in
          let now = ap one e in
          let all = counted_more xs x in
          omega (arith, before, now, all)
      split false e =
          let now = ap one e in
          let all = counted_more xs x in
          omega (arith, few, now, all)

  -- what passes somewhere passes in the longer list
  pub still_any : (xs : List X) (x : X) → list_any p xs ≡ true → list_any p (xs ++ x ∷ []) ≡ true
  still_any xs x h = list_any-append p xs (x ∷ []) ∙ ap (λ (b : Bool). b || list_any p (x ∷ [])) h
