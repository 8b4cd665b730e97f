-- Arithmetic that may wrap, by the ranges that the verifier knows. (This project's own choice.)
use Rattle.std.specs.Prelude.{ℕ, ◌+◌, ◌*◌, ◌^◌, nat_lt, Bool, not, if◌then◌else◌, List, length, Option, Some, None, option_and_then, slice_get}
use Rattle.filter_code.specs.declared.instruction.Instr.{Instr}
use Rattle.filter_code.specs.declared.instruction.Instr.TheVariants as instr
use Rattle.filter_lint.specs.Finding.{below}
use Rattle.filter_lint.specs.Known.{top_two}
use Rattle.filter_lint.specs.SurveyedFilters.{SurveyedFilterView, is_first, known_at}
use Rattle.filter_lint.specs.declared.warning.ValueBounds.{ValueBounds}
use Rattle.filter_lint.specs.declared.warning.WarningCause.TheVariants as cause
use Rattle.filter_lint.specs.declared.warning.Operation.{Operation}
use Rattle.filter_lint.specs.declared.warning.Operation.TheVariants as operation
use Rattle.filter_lint.specs.declared.warning.Warning.{Warning}

-- an operation whose result may be one that no int has
abbrev pub operation_of : Instr → Option Operation
operation_of instr.Add = Some operation.Sum
operation_of instr.Sub = Some operation.Difference
operation_of instr.Mul = Some operation.Product
operation_of _ = None

-- it may wrap on ints within these bounds: a result from 2^32 on, or one below 0
abbrev pub may_wrap : Operation → ValueBounds → ValueBounds → Bool
may_wrap operation.Sum left right = not (nat_lt (left.high + right.high) (2 ^ 32))
may_wrap operation.Difference left right = nat_lt left.low right.high
may_wrap operation.Product left right = not (nat_lt (left.high * right.high) (2 ^ 32))

-- what is said of an operation at a byte of the text, where its instruction has this index
abbrev pub wraps : ℕ → ℕ → Operation → ValueBounds → ValueBounds → Option Warning
wraps at byte what left right =
    if may_wrap what left right then Some (record { instruction = at; byte = byte; cause = cause.Wraps what left right }) else None

-- what is said of the instruction of an index: of those that come from one byte, it is said of the first
abbrev pub wraps_at : SurveyedFilterView → ℕ → Option Warning
wraps_at source at = option_and_then
    (λ i. option_and_then
    (λ byte. option_and_then
    (λ what. option_and_then
    (λ both. if is_first source.places at byte then wraps at byte what both.0 both.1 else None)
    (option_and_then top_two (known_at source at)))
    (operation_of i))
    (slice_get source.places at))
    (slice_get source.program.instrs at)

-- what is said of all instructions
abbrev pub wrapping_operations : SurveyedFilterView → List Warning
wrapping_operations source = below (wraps_at source) (length source.program.instrs)
