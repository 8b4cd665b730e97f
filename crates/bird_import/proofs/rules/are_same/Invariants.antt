use Rattle.std.specs.Prelude.{◌≡◌, ◌<◌, ℕ, Some, slice_get}
use Rattle.bird_import.specs.Rules.{IsSame}
use Rattle.bird_import.specs.declared.word.Word.{Word}
use Rattle.bird_import.proofs.rules.are_same.Given as goal

abbrev pub invariant-loop-at : goal.invariant-loop-at
invariant-loop-at l = (k : ℕ) (x y : Word) → k < l.at → slice_get l.words k ≡ Some x → slice_get l.others k ≡ Some y → IsSame x y
