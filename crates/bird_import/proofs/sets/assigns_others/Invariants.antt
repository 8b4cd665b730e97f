use Rattle.std.specs.Prelude.{◌≡◌, ◌+◌, ◌<◌, ℕ, Some, slice_get}
use Rattle.filter_tokens.specs.declared.symbol.Symbol.TheVariants as symbol
use Rattle.bird_import.specs.Rules.{Is, IsNamed}
use Rattle.bird_import.specs.declared.word.Word.{Word}
use Rattle.bird_import.proofs.sets.assigns_others.Given as goal

abbrev pub invariant-loop-at : goal.invariant-loop-at
invariant-loop-at l =
    (k : ℕ) (x y : Word) → k + 1 < l.at → slice_get l.words k ≡ Some x → slice_get l.words (k + 1) ≡ Some y → IsNamed l.name x
    → Is symbol.Equal y → ⊥
