-- Places, one by one.
use Rattle.std.proofs.Common.{◌≡◌, ℕ, zero, suc, ◌+◌, ◌<◌, Option, Some, None, List, [], ◌∷◌, length, drop, get_or, refl, sym}
use Rattle.std.proofs.Common.{◌∙◌, ap, arith, add-one}
use Rattle.std.proofs.Math.Seq.{drop-nil, drop-cons}
use Rattle.std.specs.Prelude.{option_and_then}
use Rattle.filter_verifier.specs.declared.fact.Fact.{Fact}
use Rattle.filter_verifier.specs.Facts.{all_known}
use Rattle.filter_verifier.specs.PairwiseJoin.{join_two_at, join_two_places}

-- what is known of both has as many places as the first
pub length_joined : (xs ys : List (Option Fact)) → length (join_two_places xs ys) ≡ length xs
length_joined [] ys = refl
length_joined (x ∷ xs) [] = ap suc (length_joined xs [])
length_joined (x ∷ xs) (y ∷ ys) = ap suc (length_joined xs ys)

nothing_joined : (x : Option Fact) → join_two_at x None ≡ None
nothing_joined None = refl
nothing_joined (Some a) = refl

-- from one place on
joined_from : (xs ys : List (Option Fact)) (i : ℕ) → i < length xs → join_two_places (drop i xs) (drop i ys)
    ≡ join_two_at (get_or xs i None) (get_or ys i None) ∷ join_two_places (drop (suc i) xs) (drop (suc i) ys)
joined_from [] ys i inside = absurd (omega arith)
joined_from (x ∷ xs) [] zero inside = ap (λ (a : Option Fact). a ∷ join_two_places xs []) (sym (nothing_joined x))
joined_from (x ∷ xs) (y ∷ ys) zero inside = refl
joined_from (x ∷ xs) [] (suc i) inside = rw (drop-nil {A = Option Fact} i) at (joined_from xs [] i (omega arith))
joined_from (x ∷ xs) (y ∷ ys) (suc i) inside = joined_from xs ys i (omega arith)

pub joined_step : (xs ys : List (Option Fact)) (i : ℕ) → i < length xs → join_two_places (drop i xs) (drop i ys)
    ≡ join_two_at (get_or xs i None) (get_or ys i None) ∷ join_two_places (drop (i + 1) xs) (drop (i + 1) ys)
joined_step xs ys i inside = rw add-one (joined_from xs ys i inside)

-- a stack is known from a place on
pub known_from : (places : List (Option Fact)) (at : ℕ) (a : Fact) (stack : List Fact) → at < length places →
    get_or places at None ≡ Some a → all_known (drop (at + 1) places) ≡ Some stack →
    all_known (drop at places) ≡ Some (a ∷ stack)
known_from places at a stack inside here above =
    let split : drop at places ≡ Some a ∷ drop (suc at) places = drop-cons places at None inside
    ∙ ap (λ (x : Option Fact). x ∷ drop (suc at) places) here in
    let rest : all_known (drop (suc at) places) ≡ Some stack = rw add-one at above in
    ap all_known split ∙ ap (λ (o : Option (List Fact)). option_and_then (λ facts. Some (a ∷ facts)) o) rest

-- where nothing is known of a place, the stack is not known
unknown_before : (x : Option Fact) (places : List (Option Fact)) → all_known places ≡ None → all_known (x ∷ places) ≡ None
unknown_before None places none = refl
unknown_before (Some a) places none = ap (λ (o : Option (List Fact)). option_and_then (λ facts. Some (a ∷ facts)) o) none

pub unknown_at : (places : List (Option Fact)) (at : ℕ) (d : Option Fact) → at < length places → get_or places at d ≡ None →
    all_known places ≡ None
unknown_at [] at d inside none = absurd (omega arith)
unknown_at (x ∷ places) zero d inside none = ap (λ (a : Option Fact). all_known (a ∷ places)) none
unknown_at (x ∷ places) (suc at) d inside none = unknown_before x places (unknown_at places at d (omega arith) none)
