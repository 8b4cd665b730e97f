-- The line that tells the bounds of code. (This project's own choice.)
use Rattle.std.specs.Prelude.{ℕ, List, [], ◌∷◌, ◌++◌, codes, decimal}

-- the most instructions of a run, and the most values on its stack
abbrev pub bounds_line : ℕ → ℕ → List ℕ
bounds_line budget depth = codes "verified " ++ decimal budget ++ 32 ∷ decimal depth ++ 10 ∷ []
