-- When a range holds a number, and when a set of ints does, as in the BIRD 2.0 User's Guide on filters.
use Rattle.std.specs.Prelude.{ℕ, ◌≤◌, ◌&&◌, nat_le, Bool, List}
use Rattle.std.specs.List.{Any, list_any}

-- a range of ints: its first number and its last
pub record NumberRange : Type 0 where
  pub low : ℕ
  pub high : ℕ

-- a range holds the numbers from its first to its last, and both of these
pub record Holds (number : ℕ) (range : NumberRange) : Type 0 where
  pub low : range.low ≤ number
  pub high : number ≤ range.high

abbrev pub holds : ℕ → NumberRange → Bool
holds number range = nat_le range.low number && nat_le number range.high

-- the greatest number of ranges in a set (this project's own choice)
abbrev pub range_limit : ℕ
range_limit = 1024

-- a set holds a number if one of its ranges does
abbrev pub HoldsAny : ℕ → List NumberRange → Type 0
HoldsAny number ranges = Any (Holds number) ranges

abbrev pub holds_any : ℕ → List NumberRange → Bool
holds_any number ranges = list_any (holds number) ranges
