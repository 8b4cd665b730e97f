-- Positions, counted.
use Rattle.std.proofs.Common.{◌≡◌, sym, ap, refl, ℕ, zero, suc, ◌+◌, ◌<◌, ◌≤◌, ◌==◌, nat_lt}
use Rattle.std.proofs.Common.{if◌then◌else◌, inl, inr, List, [], ◌∷◌, length, false, arith}
use Rattle.std.proofs.lemmas.Bool.{cases_Bool, eqb-true}
use Rattle.std.proofs.lemmas.Bool.Decides.{nat_tests}
use Rattle.route_history.specs.Positions.{once_below, times}
use Rattle.lock_rule.specs.Closing.{HasEachOnce}
use Rattle.lock_rule.proofs.Keeping.{once_within}
use Rattle.slot_lock.specs.Counts.{StandsAt}

-- how many of these are below n
abbrev below : ℕ → List ℕ → ℕ
below n [] = 0
below n (y ∷ ys) = (if nat_lt y n then 1 else 0) + below n ys

one_below : (n y : ℕ) → (if nat_lt y (suc n) then 1 else 0) ≡ (if nat_lt y n then 1 else 0) + (if n == y then 1 else 0)
one_below n y = grind (arith, nat_tests)

below_more : (n : ℕ) (xs : List ℕ) → below (suc n) xs ≡ below n xs + times n xs
below_more n [] = refl
below_more n (y ∷ ys) = let rest = below_more n ys in let one = one_below n y in omega arith

below_none : (xs : List ℕ) → below 0 xs ≡ 0
below_none [] = refl
below_none (y ∷ ys) = let rest = below_none ys in grind (arith, nat_tests)

-- where each number below n stands there once, n of them are below n
below_all : (n : ℕ) (xs : List ℕ) → ((x : ℕ) → x < n → times x xs ≡ 1) → below n xs ≡ n
below_all zero xs each = below_none xs
below_all (suc n) xs each =
    let rest = below_all n xs (λ x h. each x (omega arith)) in let more = below_more n xs in let one = each n (omega arith) in omega arith

here_once : (y : ℕ) (ys : List ℕ) → 0 < times y (y ∷ ys)
here_once y ys = grind (arith, nat_tests)

-- where all of them are below n, as many are
below_each : (n : ℕ) (xs : List ℕ) → ((x : ℕ) → 0 < times x xs → x < n) → below n xs ≡ length xs
below_each n [] within = refl
below_each n (y ∷ ys) within =
    let rest = below_each n ys (λ x h. within x (omega arith)) in let here = within y (here_once y ys) in
    one_more y n (below n ys) (length ys) rest here
  where
    one_more : (y n a b : ℕ) → a ≡ b → y < n → (if nat_lt y n then 1 else 0) + a ≡ suc b
    one_more y n a b e h = grind (arith, nat_tests)

once_is : (x n : ℕ) → x < n → once_below x n ≡ 1
once_is x n h = grind (arith, nat_tests)

pub as_many : (n : ℕ) (xs : List ℕ) → HasEachOnce n xs → length xs ≡ n
as_many n xs each =
    let all = below_all n xs (λ x h. let e = each x in let one = once_is x n h in omega arith) in
    let same = below_each n xs (λ x h. let e = each x in once_within x n (omega arith)) in omega arith

-- the first of a list, and those that follow
times_here : (x y : ℕ) (ys : List ℕ) → y ≡ x → times x (y ∷ ys) ≡ suc (times x ys)
times_here x y ys e = grind (arith, nat_tests)

times_later : (x y : ℕ) (ys : List ℕ) → times x ys ≤ times x (y ∷ ys)
times_later x y ys = omega arith

times_else : (x y : ℕ) (ys : List ℕ) → (x == y) ≡ false → times x (y ∷ ys) ≡ times x ys
times_else x y ys e = grind (arith, nat_tests)

-- what is counted stands somewhere, and what stands somewhere is counted
pub stands : (x : ℕ) (xs : List ℕ) → 0 < times x xs → (k : ℕ) × StandsAt x xs k
stands x [] h = absurd (omega arith)
stands x (y ∷ ys) h = elim (cases_Bool (x == y)) [
  | inl e ↦ (0, record { below = omega arith; is = sym (eqb-true x y e) })
  | inr e ↦
      let same = times_else x y ys e in
      let there = stands x ys (omega arith) in
      let near = there.1.below in
      (suc there.0, record { below = omega arith; is = there.1.is })
]

pub counted : (x : ℕ) (xs : List ℕ) (k : ℕ) → StandsAt x xs k → 0 < times x xs
counted x [] k at = let near = at.below in absurd (omega arith)
counted x (y ∷ ys) zero at = let here = times_here x y ys at.is in omega arith
counted x (y ∷ ys) (suc k) at =
    let near = at.below in
    let later = times_later x y ys in
    let there = counted x ys k (record { below = omega arith; is = at.is }) in omega arith

pub each_there : (n x : ℕ) (xs : List ℕ) → HasEachOnce n xs → x < n → (k : ℕ) × StandsAt x xs k
each_there n x xs each h = stands x xs (let e = each x in let one = once_is x n h in omega arith)

pub each_within : (n x k : ℕ) (xs : List ℕ) → HasEachOnce n xs → StandsAt x xs k → x < n
each_within n x k xs each at = let e = each x in let some = counted x xs k at in once_within x n (omega arith)

pub apart : (x j k : ℕ) (xs : List ℕ) → times x xs ≤ 1 → StandsAt x xs j → StandsAt x xs k → j ≡ k
apart x j k [] most a b = let near = a.below in absurd (omega arith)
apart x zero zero (y ∷ ys) most a b = refl
apart x zero (suc k) (y ∷ ys) most a b =
    let near = b.below in
    let here = times_here x y ys a.is in
    let there = counted x ys k (record { below = omega arith; is = b.is }) in absurd (omega arith)
apart x (suc j) zero (y ∷ ys) most a b =
    let near = a.below in
    let here = times_here x y ys b.is in
    let there = counted x ys j (record { below = omega arith; is = a.is }) in absurd (omega arith)
apart x (suc j) (suc k) (y ∷ ys) most a b =
    let first = a.below in
    let second = b.below in
    let later = times_later x y ys in
    ap suc (apart x j k ys (omega arith) (record { below = omega arith; is = a.is }) (record { below = omega arith; is = b.is }))
