use Rattle.std.specs.Prelude.{◌<◌, ℕ}
use Rattle.bird_import.proofs.Spelled.{IsSpelledAt}
use Rattle.bird_import.proofs.text.are_words.Given as goal

abbrev pub invariant-loop-at : goal.invariant-loop-at
invariant-loop-at l = (k : ℕ) → k < l.at → IsSpelledAt l.text l.tokens l.words k
