-- What waits in a link in memory.
use Rattle.std.proofs.Common.{◌≡◌, subst, refl, ℕ, zero, suc, ◌+◌, Some, None, List, [], ◌∷◌, arith}
use Rattle.std.specs.Prelude.{drop, slice_get}
use Rattle.netchange_core.specs.declared.message.Message.{Message}

pub next_waits : (xs : List Message) (n : ℕ) (m : Message) → slice_get xs n ≡ Some m → drop n xs ≡ m ∷ drop (n + 1) xs
next_waits [] n m h = absurd cc
next_waits (x ∷ xs) zero m h = cc
next_waits (x ∷ xs) (suc n) m h =
    let after : suc (n + 1) ≡ suc n + 1 = omega arith in
    subst (λ (k : ℕ). drop (suc n) (x ∷ xs) ≡ m ∷ drop k (x ∷ xs)) after (next_waits xs n m h)

pub none_waits : (xs : List Message) (n : ℕ) → slice_get xs n ≡ None → drop n xs ≡ []
none_waits [] zero h = refl
none_waits [] (suc n) h = refl
none_waits (x ∷ xs) zero h = absurd cc
none_waits (x ∷ xs) (suc n) h = none_waits xs n h
