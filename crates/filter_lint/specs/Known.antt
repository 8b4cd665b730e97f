-- What the verifier knows of ints before an instruction. (This project's own choice.)
use Rattle.std.specs.Prelude.{List, [], ◌∷◌, Option, Some, None, option_and_then}
use Rattle.std.specs.Option.{option_map}
use Rattle.filter_verifier.specs.InStateView.{InStateView, Unreached, UnlikeDepths, Known}
use Rattle.filter_verifier.specs.Ranges.{RangeView}
use Rattle.filter_verifier.specs.Surveys.{top_int}
use Rattle.filter_verifier.specs.declared.fact.Fact.{Fact}
use Rattle.filter_verifier.specs.declared.fact.Fact.TheVariants as fact
use Rattle.filter_lint.specs.declared.warning.ValueBounds.{ValueBounds}

-- the least and the greatest value of a range
abbrev pub bounds_of : RangeView → ValueBounds
bounds_of range = record { low = range.low; high = range.high }

-- those of what is known at a place, if it is an int
abbrev pub int_at : Option Fact → Option ValueBounds
int_at (Some (fact.Int range)) = Some (bounds_of range)
int_at place = None

-- those of the two ints on top of a stack, the upper one last
abbrev pub two_of : List (Option Fact) → Option (ValueBounds × ValueBounds)
two_of [] = None
two_of (right ∷ []) = None
two_of (right ∷ (left ∷ rest)) = option_and_then (λ a. option_and_then (λ b. Some (a, b)) (int_at right)) (int_at left)

abbrev pub top_two : InStateView → Option (ValueBounds × ValueBounds)
top_two Unreached = None
top_two UnlikeDepths = None
top_two (Known frame) = two_of frame.stack

-- those of the int on top
abbrev pub top_one : InStateView → Option ValueBounds
top_one known = option_map bounds_of (top_int known)
