-- What stands at the front of bytes stays there as more is added.
use Rattle.std.proofs.Common.{◌≡◌, ℕ, ◌≤◌, List, ◌++◌, length, take, Result, Ok, Err, OnErr, refl}
use Rattle.std.proofs.Common.{sym, ◌∙◌, ap, arith, length-append, take-take, take_at, subst}
use Rattle.std.specs.Io.{StartsWith}

pub longer_front : (xs old more now : List ℕ) → now ≡ old ++ more → StartsWith xs now → StartsWith xs old
longer_front xs old more now is h =
    let whole : StartsWith xs (old ++ more) = subst (λ front. StartsWith xs front) is h in
    let within : length old ≤ length (old ++ more) = omega (arith, length-append old more) in
    sym (take-take (length old) (length (old ++ more)) xs within) ∙ ap (take (length old)) whole ∙ take_at old more (length old) refl

pub err_weaker : {A E : Type 0} (r : Result A E) (P Q : Type 0) → (P → Q) → OnErr r P → OnErr r Q
err_weaker (Ok x) P Q weaker h = h
err_weaker (Err e) P Q weaker h = weaker h

-- a clause that holds after each end
pub err_always : {A E : Type 0} (r : Result A E) (P : Type 0) → P → OnErr r P
err_always (Ok x) P holds = tt
err_always (Err e) P holds = holds
