-- Variables that are never read. (This project's own choice.)
use Rattle.std.specs.Prelude.{ℕ, ◌+◌, ◌*◌, ◌==◌, Bool, false, if◌then◌else◌, List, length, Option, Some, None, option_and_then, slice_get}
use Rattle.std.specs.List.{list_any}
use Rattle.filter_code.specs.declared.instruction.Instr.{Instr}
use Rattle.filter_code.specs.declared.instruction.Instr.TheVariants as instr
use Rattle.filter_lint.specs.Finding.{below}
use Rattle.filter_lint.specs.SurveyedFilters.{SurveyedFilterView}
use Rattle.filter_lint.specs.declared.warning.WarningCause.TheVariants as cause
use Rattle.filter_lint.specs.declared.warning.Warning.{Warning}

-- an instruction that reads the variable of a number
abbrev pub is_load_of : ℕ → Instr → Bool
is_load_of number (instr.Load read) = read == number
is_load_of number _ = false

-- the number of the variable that an instruction declares: the second of the two instructions of each declaration sets it
abbrev pub declared_by : Instr → ℕ → Option ℕ
declared_by (instr.Store number) at = if at == 2 * number + 1 then Some number else None
declared_by _ at = None

-- what is said of an instruction
abbrev pub unread_at : SurveyedFilterView → ℕ → Option Warning
unread_at source at = option_and_then
    (λ i. option_and_then
    (λ byte. option_and_then
    (λ number. if list_any (is_load_of number) source.program.instrs then None
    else Some (record { instruction = at; byte = byte; cause = cause.Unread }))
    (declared_by i at))
    (slice_get source.places at))
    (slice_get source.program.instrs at)

-- what is said of all variables
abbrev pub unread_variables : SurveyedFilterView → List Warning
unread_variables source = below (unread_at source) (length source.program.instrs)
