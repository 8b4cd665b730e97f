-- Assignments that would lower the metric. The code of an assignment takes the greater of the value and the metric received, by a MAX.
-- (This project's own choice.)
use Rattle.std.specs.Prelude.{ℕ, if◌then◌else◌, List, length, Option, Some, None, option_and_then, slice_get}
use Rattle.filter_diff.specs.declared.mark.Mark.{Mark}
use Rattle.filter_lint.specs.Finding.{below}
use Rattle.filter_lint.specs.SurveyedFilters.{SurveyedFilterView}
use Rattle.filter_lint.specs.declared.warning.WarningCause.TheVariants as cause
use Rattle.filter_lint.specs.declared.warning.Warning.{Warning}

-- what is said of a MAX at a byte of the text, where its instruction has this index and this mark
abbrev pub not_lowered : ℕ → ℕ → Mark → Option Warning
not_lowered at byte mark =
    if mark.is_raised then Some (record { instruction = at; byte = byte; cause = cause.NotLowered }) else None

-- the same of the instruction of an index
abbrev pub not_lowered_at : SurveyedFilterView → List Mark → ℕ → Option Warning
not_lowered_at source marks at = option_and_then
    (λ byte. option_and_then (not_lowered at byte) (slice_get marks at))
    (slice_get source.places at)

-- what is said of all assignments of the metric
abbrev pub metrics_not_lowered : SurveyedFilterView → List Mark → List Warning
metrics_not_lowered source marks = below (not_lowered_at source marks) (length source.program.instrs)
