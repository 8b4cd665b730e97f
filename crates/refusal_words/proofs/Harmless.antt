-- Nothing that is shown is hidden.
use Rattle.std.proofs.Common.{◌≡◌, ℕ, Bool, true, false, List, [], ◌∷◌, map, refl}
use Rattle.std.proofs.lemmas.List.Elements.{All-cons, All-nil}
use Rattle.std.specs.Prelude.{All, if◌then◌else◌, nat_lt, not}
use Rattle.refusal_words.specs.Shown.{is_hidden, shown_character}

-- in place of a character that is hidden
stand_in : (is_ascii : Bool) → is_hidden (if is_ascii then 32 else 0xfffd) ≡ false
stand_in true = refl
stand_in false = refl

by_hidden : (c : ℕ) (b : Bool) → is_hidden c ≡ b → is_hidden (if not b then c else if nat_lt c 128 then 32 else 0xfffd) ≡ false
by_hidden c true e = stand_in (nat_lt c 128)
by_hidden c false e = e

pub all_harmless : (cs : List ℕ) → All (λ c. is_hidden c ≡ false) (map shown_character cs)
all_harmless [] = All-nil (λ c. is_hidden c ≡ false)
all_harmless (c ∷ cs) =
    All-cons (λ c. is_hidden c ≡ false) (shown_character c) (map shown_character cs) (by_hidden c (is_hidden c) refl) (all_harmless cs)
