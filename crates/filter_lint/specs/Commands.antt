-- Commands that no route reaches. (This project's own choice.)
use Rattle.std.specs.Prelude.{ℕ, zero, suc, ◌-◌, nat_le, Bool, true, false, not, ◌||◌, if◌then◌else◌}
use Rattle.std.specs.Prelude.{List, length, Option, Some, None, is_some, option_and_then, slice_get}
use Rattle.filter_code.specs.declared.instruction.Instr.{Instr}
use Rattle.filter_code.specs.declared.instruction.Instr.TheVariants as instr
use Rattle.filter_diff.specs.declared.mark.Mark.{Mark}
use Rattle.filter_lint.specs.Finding.{below}
use Rattle.filter_lint.specs.Sites.{is_if_at}
use Rattle.filter_lint.specs.SurveyedFilters.{SurveyedFilterView}
use Rattle.filter_lint.specs.declared.warning.WarningCause.TheVariants as cause
use Rattle.filter_lint.specs.declared.warning.Warning.{Warning}

-- an instruction that does what a command says: it ends the run or sets something, or jumps by the condition of an `if`
abbrev pub is_of_command : List ℕ → Instr → ℕ → Bool
is_of_command text instr.Accept byte = true
is_of_command text instr.Reject byte = true
is_of_command text (instr.Store i) byte = true
is_of_command text instr.SetMetric byte = true
is_of_command text (instr.JumpIfNot skipped) byte = is_if_at text byte
is_of_command text _ byte = false

-- the byte of the command that the instruction of an index stands for; the last one is the REJECT at the end, and stands for none
abbrev pub command_at : SurveyedFilterView → ℕ → Option ℕ
command_at source at =
    if nat_le (length source.program.instrs - at) 1 then None
    else option_and_then
    (λ i. option_and_then (λ byte. if is_of_command source.text i byte then Some byte else None) (slice_get source.places at))
    (slice_get source.program.instrs at)

-- whether a route may come to an instruction
abbrev pub mark_reached : Option Mark → Bool
mark_reached None = true
mark_reached (Some mark) = mark.is_reached

abbrev pub is_reached : List Mark → ℕ → Bool
is_reached marks at = mark_reached (slice_get marks at)

-- what is said of an instruction, where it is known whether the command before it is reached
abbrev pub unreached_at : SurveyedFilterView → List Mark → ℕ → Bool → Option Warning
unreached_at source marks at was_reached = option_and_then
    (λ byte. if not was_reached || is_reached marks at then None
    else Some (record { instruction = at; byte = byte; cause = cause.Unreached }))
    (command_at source at)

-- whether the last command up to an instruction is reached, where it is known of the one before
abbrev pub reached_up_to : SurveyedFilterView → List Mark → ℕ → Bool → Bool
reached_up_to source marks at was_reached = if is_some (command_at source at) then is_reached marks at else was_reached

-- the same of the last command before an instruction; where there is none, it counts as reached
unfoldable pub was_reached : SurveyedFilterView → List Mark → ℕ → Bool
was_reached source marks zero = true
was_reached source marks (suc n) = reached_up_to source marks n (was_reached source marks n)

-- what is said of all commands: of the first of some that are not reached one after another
abbrev pub unreached_in : SurveyedFilterView → List Mark → ℕ → Option Warning
unreached_in source marks at = unreached_at source marks at (was_reached source marks at)

abbrev pub unreached_commands : SurveyedFilterView → List Mark → List Warning
unreached_commands source marks = below (unreached_in source marks) (length source.program.instrs)
