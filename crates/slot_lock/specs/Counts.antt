-- Positions of calls, counted. (This project's own choice.)
use Rattle.std.specs.Prelude.{◌≡◌, ℕ, ◌<◌, ◌≤◌, List, length, slice_index_or}
use Rattle.route_history.specs.Positions.{times}
pub use Rattle.lock_rule.specs.Closing.{HasEachOnce}

-- nothing stands in the list twice
abbrev pub HasNoneTwice : List ℕ → Type 0
HasNoneTwice xs = (x : ℕ) → times x xs ≤ 1

-- the position stands at this index of the list
pub record StandsAt (x : ℕ) (xs : List ℕ) (k : ℕ) : Type 0 where
  pub below : k < length xs
  pub is : slice_index_or xs k 0 ≡ x
