-- Positions of a history, shared out over lists: each stands in one of them, once. (This project's own choice.)
use Rattle.std.specs.Prelude.{◌≡◌, ℕ, ◌+◌, ◌==◌, nat_lt, if◌then◌else◌, List, [], ◌∷◌}

-- how often a position stands in a list, and in lists
abbrev pub times : ℕ → List ℕ → ℕ
times x [] = 0
times x (y ∷ ys) = (if x == y then 1 else 0) + times x ys

abbrev pub times_in_all : ℕ → List (List ℕ) → ℕ
times_in_all x [] = 0
times_in_all x (ys ∷ rest) = times x ys + times_in_all x rest

-- once for a position of a history of n entries
abbrev pub once_below : ℕ → ℕ → ℕ
once_below x n = if nat_lt x n then 1 else 0

-- each position of a history of n entries stands in one of the lists, once, and nothing else stands there
abbrev pub AreSharedOut : ℕ → List (List ℕ) → Type 0
AreSharedOut n lists = (x : ℕ) → times_in_all x lists ≡ once_below x n
