-- Words that follow one another and declare nothing.
use Rattle.std.proofs.Common.{◌≡◌, ℕ, ◌+◌, ◌<◌, ◌≤◌, ◌⊎◌, List, length, subst, sym, inl, inr, arith}
use Rattle.std.proofs.lemmas.Option.{slice_get_within}
use Rattle.bird_import.specs.Functions.{DeclaresNothing, DeclaresNothingAt}
use Rattle.bird_import.specs.declared.word.Word.{Word}

-- below the next number is below a number, or at it
below_or_at : (k n : ℕ) → k < n + 1 → (k < n) ⊎ (k ≡ n)
below_or_at k n h = grind arith

-- nothing is declared at one more index
pub one_more_place : (words : List Word) (n : ℕ) → ((k : ℕ) → k < n → DeclaresNothingAt words k) → DeclaresNothingAt words n
    → (k : ℕ) → k < n + 1 → DeclaresNothingAt words k
one_more_place words n before at k below =
    elim (below_or_at k n below) [
      | inl earlier ↦ before k earlier
      | inr same ↦ subst (λ i. DeclaresNothingAt words i) (sym same) at
    ]

-- nothing is declared at all, where that is so up to the length
pub nothing_declared : (words : List Word) (n : ℕ) → length words ≤ n → ((k : ℕ) → k < n → DeclaresNothingAt words k)
    → DeclaresNothing words
nothing_declared words n ends before k x y is more declared =
    let within : k < length words = slice_get_within words k x is in
    before k (omega (arith, within, ends)) x y is more declared
