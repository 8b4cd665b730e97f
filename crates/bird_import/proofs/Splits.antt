-- Lists that are cut in two.
use Rattle.std.proofs.Common.{◌≡◌, ℕ, List, ◌++◌, arith}
use Rattle.std.proofs.lemmas.List.{take-append-drop}
use Rattle.std.specs.List.{IsSplitAt}

-- the two parts of a list, side by side
pub side_by_side : {X : Type 0} (xs : List X) (mid : ℕ) (front back : List X) → IsSplitAt xs mid front back → xs ≡ front ++ back
side_by_side xs mid front back split =
    let whole = take-append-drop mid xs in grind (arith, split.1, split.2, whole)
