-- The lines of a text were taken in place of those of standard input, of which nothing was read.
use Rattle.std.proofs.Common.{ℕ, List, Option, Some, Result, Ok, Err, IfErr, IfOk, refl}
use Rattle.ncroute.specs.Scripts.{TakesLines}

pub answered : {A B : Type 0} (Answered : A → List ℕ → Option (List ℕ) → Type 0) (text : List ℕ) (left known : Option (List ℕ))
    (r : Result A B) → IfOk r (λ a. Answered a text left) → IfOk r (λ a. TakesLines (Some text) (Answered a) known known)
answered Answered text left known (Ok a) h = ((left, h), refl)
answered Answered text left known (Err b) h = tt

pub left_off : {A B : Type 0} (LeftOff : B → List ℕ → Option (List ℕ) → Type 0) (text : List ℕ) (left known : Option (List ℕ))
    (r : Result A B) → IfErr r (λ b. LeftOff b text left) → IfErr r (λ b. TakesLines (Some text) (LeftOff b) known known)
left_off LeftOff text left known (Ok a) h = tt
left_off LeftOff text left known (Err b) h = ((left, h), refl)
