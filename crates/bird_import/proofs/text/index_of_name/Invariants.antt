use Rattle.std.proofs.Common.{◌≡◌, ◌<◌, ℕ, IfSome, None}
use Rattle.bird_import.specs.Indices.{IsNamedAt}
use Rattle.bird_import.proofs.text.index_of_name.Given as goal

-- what is found is a word of this name, and where nothing is found none of the words so far is
abbrev pub invariant-loop-at : goal.invariant-loop-at
invariant-loop-at l =
    IfSome l.found (IsNamedAt l.name l.words) × (l.found ≡ None → (k : ℕ) → k < l.at → IsNamedAt l.name l.words k → ⊥)
