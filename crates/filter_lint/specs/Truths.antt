-- What a warning says of the runs of a filter's code. (This project's own choice.)
use Rattle.std.specs.Prelude.{◌≡◌, ◌≢◌, ℕ, ◌+◌, ◌*◌, ◌<◌, ◌≤◌, Bool, true, List, Some, slice_get}
use Rattle.filter_code.specs.CodeView.{CodeView}
use Rattle.filter_code.specs.Machine.{Config}
use Rattle.filter_code.specs.declared.instruction.Instr.{Instr}
use Rattle.filter_code.specs.declared.instruction.Instr.TheVariants as instr
use Rattle.filter_diff.specs.Ordering.{IsDisorder}
use Rattle.filter_diff.specs.Reaching.{AreOnTop, Comes, IsAlways, IsCondition, IsMax, IsNeverReached}
use Rattle.prefix_patterns.specs.Matching.{Matches, PrefixPattern}
use Rattle.int_sets.specs.Holding.{Holds, NumberRange}
use Rattle.filter_verifier.specs.InStates.{in_state}
use Rattle.filter_lint.specs.Arithmetic.{may_wrap, operation_of}
use Rattle.filter_lint.specs.Known.{top_one, top_two}
use Rattle.filter_lint.specs.Overlaps.{bounds_of}
use Rattle.filter_lint.specs.declared.warning.ValueBounds.{ValueBounds}
use Rattle.filter_lint.specs.declared.warning.WarningCause.{WarningCause}
use Rattle.filter_lint.specs.declared.warning.WarningCause.TheVariants as cause
use Rattle.filter_lint.specs.declared.warning.Operation.{Operation}
use Rattle.filter_lint.specs.declared.warning.Warning.{Warning}

-- an instruction jumps by a condition, to which the run on some route of the domain comes, and which on all these routes is the same
pub record IsConstant (program : CodeView) (size at : ℕ) (truth : Bool) : Type 0 where
  pub condition : IsCondition program at
  pub always : IsAlways program size at truth
  pub come : Config
  pub some : Comes program size at come

-- an operation that may wrap, by the ranges that the verifier knows of its operands
pub record MayWrap (program : CodeView) (size at : ℕ) (what : Operation) (left right : ValueBounds) : Type 0 where
  pub i : Instr
  pub there : slice_get program.instrs at ≡ Some i
  pub is_operation : operation_of i ≡ Some what
  pub known : top_two (in_state program size at) ≡ Some (left, right)
  pub wraps : may_wrap what left right ≡ true

-- the instruction that sets a variable where it is declared, which no instruction reads
pub record IsUnread (program : CodeView) (at : ℕ) : Type 0 where
  pub number : ℕ
  pub declared : at ≡ 2 * number + 1
  pub stored : slice_get program.instrs at ≡ Some (instr.Store number)
  pub unread : (k : ℕ) → slice_get program.instrs k ≢ Some (instr.Load number)

-- an instruction that sets the metric to what is at least the size, by the range that the verifier knows of it
pub record IsUnreachable (program : CodeView) (size at : ℕ) (bounds : ValueBounds) : Type 0 where
  pub sets : slice_get program.instrs at ≡ Some instr.SetMetric
  pub known : top_one (in_state program size at) ≡ Some bounds
  pub large : size ≤ bounds.low

-- an instruction that asks for the set of this number, of which two patterns have these indices: each prefix that matches the first one
-- matches the second one
pub record IsCovered (program : CodeView) (at number first second : ℕ) : Type 0 where
  pub asks : slice_get program.instrs at ≡ Some (instr.Member number)
  pub patterns : List PrefixPattern
  pub set : slice_get program.sets number ≡ Some patterns
  pub inner : PrefixPattern
  pub outer : PrefixPattern
  pub inner_is : slice_get patterns first ≡ Some inner
  pub outer_is : slice_get patterns second ≡ Some outer
  pub apart : second ≢ first
  pub covers : (prefix : List Bool) → Matches prefix inner → Matches prefix outer

-- an instruction that asks for a set of ints, in which two ranges share a number: one of the first bounds, and before it one of the second bounds
pub record IsOverlapping (program : CodeView) (at : ℕ) (first second : ValueBounds) : Type 0 where
  pub number : ℕ
  pub asks : slice_get program.instrs at ≡ Some (instr.InSet number)
  pub ranges : List NumberRange
  pub set : slice_get program.int_sets number ≡ Some ranges
  pub j : ℕ
  pub k : ℕ
  pub before : k < j
  pub range : NumberRange
  pub other : NumberRange
  pub range_is : slice_get ranges j ≡ Some range
  pub other_is : slice_get ranges k ≡ Some other
  pub of_range : bounds_of range ≡ first
  pub of_other : bounds_of other ≡ second
  pub shared : ℕ
  pub in_range : Holds shared range
  pub in_other : Holds shared other

-- an instruction that takes the greater of two ints, to which the run on some route of the domain comes with the upper one greater: in
-- the code of an assignment that is the metric received, and the value is below it
pub record IsNotLowered (program : CodeView) (size at : ℕ) : Type 0 where
  pub greater : IsMax program at
  pub come : Config
  pub some : Comes program size at come
  pub above : AreOnTop true come

-- why a warning is said is so
abbrev pub IsSo : CodeView → ℕ → ℕ → WarningCause → Type 0
IsSo program size at (cause.Constant place truth) = IsConstant program size at truth
IsSo program size at cause.Unreached = IsNeverReached program size at
IsSo program size at (cause.Wraps what left right) = MayWrap program size at what left right
IsSo program size at (cause.Covered number first second) = IsCovered program at number first second
IsSo program size at (cause.Overlapping first second) = IsOverlapping program at first second
IsSo program size at cause.Unread = IsUnread program at
IsSo program size at (cause.Unreachable bounds) = IsUnreachable program size at bounds
IsSo program size at cause.NotLowered = IsNotLowered program size at
IsSo program size at (cause.Disordered shown) = IsDisorder program size shown

-- a warning is said at the byte of the text that its instruction comes from, and what it says is so
pub record IsTrueOf (program : CodeView) (size : ℕ) (places : List ℕ) (warning : Warning) : Type 0 where
  pub place : slice_get places warning.instruction ≡ Some warning.byte
  pub is_so : IsSo program size warning.instruction warning.cause
