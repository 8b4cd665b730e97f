-- Metrics that mean unreachable, by the ranges that the verifier knows. (This project's own choice.)
use Rattle.std.specs.Prelude.{ℕ, nat_le, Bool, true, false, ◌&&◌, if◌then◌else◌, List, length, Option, Some, None, option_and_then, slice_get}
use Rattle.filter_code.specs.declared.instruction.Instr.{Instr}
use Rattle.filter_code.specs.declared.instruction.Instr.TheVariants as instr
use Rattle.filter_lint.specs.Finding.{below}
use Rattle.filter_lint.specs.Known.{top_one}
use Rattle.filter_lint.specs.SurveyedFilters.{SurveyedFilterView, known_at}
use Rattle.filter_lint.specs.declared.warning.WarningCause.TheVariants as cause
use Rattle.filter_lint.specs.declared.warning.Warning.{Warning}

-- an instruction that sets the metric
abbrev pub sets_metric : Instr → Bool
sets_metric instr.SetMetric = true
sets_metric _ = false

-- what is said of the instruction of an index
abbrev pub unreachable_at : SurveyedFilterView → ℕ → Option Warning
unreachable_at source at = option_and_then
    (λ i. option_and_then
    (λ byte. option_and_then
    (λ bounds. if sets_metric i && nat_le source.size bounds.low
    then Some (record { instruction = at; byte = byte; cause = cause.Unreachable bounds }) else None)
    (option_and_then top_one (known_at source at)))
    (slice_get source.places at))
    (slice_get source.program.instrs at)

-- what is said of all instructions
abbrev pub unreachable_metrics : SurveyedFilterView → List Warning
unreachable_metrics source = below (unreachable_at source) (length source.program.instrs)
