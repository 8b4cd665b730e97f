-- Conditions that come out the same way on every route that comes to them. (This project's own choice.)
use Rattle.std.specs.Prelude.{ℕ, Bool, true, false, not, ◌&&◌, if◌then◌else◌, List, length, Option, Some, None, option_and_then, slice_get}
use Rattle.filter_code.specs.declared.instruction.Instr.{Instr}
use Rattle.filter_code.specs.declared.instruction.Instr.TheVariants as instr
use Rattle.filter_diff.specs.declared.mark.Mark.{Mark}
use Rattle.filter_lint.specs.Finding.{below}
use Rattle.filter_lint.specs.Sites.{site_at}
use Rattle.filter_lint.specs.SurveyedFilters.{SurveyedFilterView}
use Rattle.filter_lint.specs.declared.site.Site.{Site}
use Rattle.filter_lint.specs.declared.site.Site.TheVariants as site
use Rattle.filter_lint.specs.declared.warning.WarningCause.TheVariants as cause
use Rattle.filter_lint.specs.declared.warning.Warning.{Warning}

-- the one way, if some route comes to it
abbrev pub constant_of : Mark → Option Bool
constant_of mark =
    if mark.is_true && not mark.is_false then Some true else if mark.is_false && not mark.is_true then Some false else None

-- a condition that stands in the text
abbrev pub is_asked : Site → Bool
is_asked site.Case = false
is_asked place = true

-- what is said of a condition at a byte of the text, where its instruction has this index and this mark
abbrev pub constant : List ℕ → ℕ → ℕ → Mark → Option Warning
constant text at byte mark = option_and_then
    (λ where_it_is. option_and_then
    (λ value. if is_asked where_it_is
    then Some (record { instruction = at; byte = byte; cause = cause.Constant where_it_is value }) else None)
    (constant_of mark))
    (site_at text byte)

-- the same of an instruction, if it jumps by a condition
abbrev pub constant_by : List ℕ → ℕ → Instr → ℕ → Mark → Option Warning
constant_by text at (instr.JumpIfNot skipped) byte mark = constant text at byte mark
constant_by text at _ byte mark = None

-- the same of the instruction of an index
abbrev pub constant_at : SurveyedFilterView → List Mark → ℕ → Option Warning
constant_at source marks at = option_and_then
    (λ i. option_and_then
    (λ byte. option_and_then (constant_by source.text at i byte) (slice_get marks at))
    (slice_get source.places at))
    (slice_get source.program.instrs at)

-- what is said of all conditions
abbrev pub constant_conditions : SurveyedFilterView → List Mark → List Warning
constant_conditions source marks = below (constant_at source marks) (length source.program.instrs)
