-- The least and the greatest of some numbers, and whether any two differ.
use Rattle.std.specs.Prelude.{ℕ, ◌==◌, min, max, not, Bool, List, [], ◌∷◌}
use Rattle.std.specs.List.{list_any}

-- the least of one number or more
abbrev pub least : List ℕ → ℕ
least [] = 0
least (n ∷ []) = n
least (n ∷ (m ∷ others)) = min n (least (m ∷ others))

-- the greatest; of no number it is 0
abbrev pub greatest : List ℕ → ℕ
greatest [] = 0
greatest (n ∷ others) = max n (greatest others)

-- whether any two differ
abbrev pub any_two_differ : List ℕ → Bool
any_two_differ numbers = list_any (λ m. list_any (λ n. not (m == n)) numbers) numbers
