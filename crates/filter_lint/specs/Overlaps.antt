-- Ranges of a set of ints that share a number with another one of the set. (This project's own choice.)
use Rattle.std.specs.Prelude.{ℕ, nat_le, Bool, max, min, List, [], length, position, take, Option, Some, None, option_and_then, slice_get}
use Rattle.int_sets.specs.Holding.{NumberRange}
use Rattle.filter_lint.specs.Finding.{below}
use Rattle.filter_lint.specs.declared.sets.Asked.{Asked}
use Rattle.filter_lint.specs.declared.warning.ValueBounds.{ValueBounds}
use Rattle.filter_lint.specs.declared.warning.WarningCause.TheVariants as cause
use Rattle.filter_lint.specs.declared.warning.Warning.{Warning}

-- some number is in both ranges: the greater of their first ones
abbrev pub overlaps : NumberRange → NumberRange → Bool
overlaps other range = nat_le (max other.low range.low) (min other.high range.high)

-- the first and the last number of a range
abbrev pub bounds_of : NumberRange → ValueBounds
bounds_of range = record { low = range.low; high = range.high }

-- the first of the ranges before an index that shares a number with the range there
abbrev pub overlapped : List NumberRange → ℕ → NumberRange → Option NumberRange
overlapped ranges at range = option_and_then (slice_get ranges) (position (λ other. overlaps other range) (take at ranges))

-- what is said of the range of an index, in the set that an instruction asks for
abbrev pub overlap_at : List NumberRange → Asked → ℕ → Option Warning
overlap_at ranges asked at = option_and_then
    (λ range. option_and_then
    (λ other. Some (record { instruction = asked.instruction; byte = asked.byte; cause = cause.Overlapping (bounds_of range) (bounds_of other) }))
    (overlapped ranges at range))
    (slice_get ranges at)

-- what is said of all ranges of a set
abbrev pub overlaps_in : List NumberRange → Asked → List Warning
overlaps_in ranges asked = below (overlap_at ranges asked) (length ranges)

abbrev pub overlaps_of : Option (List NumberRange) → Asked → List Warning
overlaps_of None asked = []
overlaps_of (Some ranges) asked = overlaps_in ranges asked
