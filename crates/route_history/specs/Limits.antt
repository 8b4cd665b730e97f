-- The limits of a history. (This project's own choice.)
use Rattle.std.specs.Prelude.{ℕ, Option, Some, None}

-- the most entries that a history in memory may have; it is also its limit where none is given
abbrev pub largest_limit : ℕ
largest_limit = 1000000

-- the limit of a history, where it may be left out
abbrev pub limit_or : Option ℕ → ℕ
limit_or None = largest_limit
limit_or (Some limit) = limit
