-- The ranges that are searched in place of those of a set. (This project's own choice.)
use Rattle.std.specs.Prelude.{◌≡◌, ℕ, ◌≤◌, List, None, Option, Some, Vec, length}
use Rattle.std.specs.List.Sorted.{IsNonDecreasingBy}
use Rattle.std.specs.declared.alloc.Global.{Global}
use Rattle.int_sets.specs.Holding.{NumberRange, holds_any, range_limit}

-- from range to range the first numbers do not fall, nor do the last
pub record AreRising (ranges : List NumberRange) : Type 0 where
  pub low : IsNonDecreasingBy (λ r. r.low) ranges
  pub high : IsNonDecreasingBy (λ r. r.high) ranges

-- rising ranges that hold the same numbers as others
pub record StandFor (merged ranges : List NumberRange) : Type 0 where
  pub rising : AreRising merged
  pub same : (number : ℕ) → holds_any number merged ≡ holds_any number ranges

-- the greatest number of ranges in a set that is scanned
abbrev pub scan_limit : ℕ
scan_limit = 8

-- how a set is searched: its own ranges are scanned if they are few, and otherwise others are searched that stand for them
abbrev pub IsSearchOf : Option (Vec NumberRange Global) → List NumberRange → Type 0
IsSearchOf None ranges = length ranges ≤ scan_limit
IsSearchOf (Some merged) ranges = StandFor merged.items ranges

-- a set within the limit, and how it is searched
pub record IsSearchable (ranges : List NumberRange) (merged : Option (Vec NumberRange Global)) : Type 0 where
  pub limit : length ranges ≤ range_limit
  pub searched : IsSearchOf merged ranges
