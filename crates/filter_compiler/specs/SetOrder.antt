-- The sets of a filter, in the order of the text, and their numbers: sets of patterns and sets of ints are numbered each by themselves.
-- (This project's own choice.)
use Rattle.std.specs.Prelude.{ℕ, ◌+◌, List, [], ◌++◌, length}
use Rattle.int_sets.specs.Holding.{NumberRange}
use Rattle.prefix_patterns.specs.Matching.{PrefixPattern}

-- the sets of a part of a filter: those of patterns and those of ints
pub record Sets : Type 0 where
  pub patterns : List (List PrefixPattern)
  pub ints : List (List NumberRange)

abbrev pub no_sets : Sets
no_sets = record { patterns = []; ints = [] }

-- the sets of one part and those of the next
abbrev pub with_sets : Sets → Sets → Sets
with_sets a b = record { patterns = a.patterns ++ b.patterns; ints = a.ints ++ b.ints }

-- how many sets come before a part in the text, which are the numbers of its first sets
pub record SetCounts : Type 0 where
  pub patterns : ℕ
  pub ints : ℕ

abbrev pub none_before : SetCounts
none_before = record { patterns = 0; ints = 0 }

-- how many come before what follows these sets
abbrev pub past : SetCounts → Sets → SetCounts
past before sets = record { patterns = before.patterns + length sets.patterns; ints = before.ints + length sets.ints }
