-- Routes of which the lesser one of two metrics comes to more than the other. (This project's own choice.)
use Rattle.std.specs.Prelude.{ℕ, Bool, true, false, Option, Some, None, slice_get}
use Rattle.filter_diff.specs.declared.ordering.Order.{Order}
use Rattle.filter_diff.specs.declared.ordering.Order.TheVariants as order
use Rattle.filter_lint.specs.SurveyedFilters.{SurveyedFilterView}
use Rattle.filter_lint.specs.declared.warning.WarningCause.TheVariants as cause
use Rattle.filter_lint.specs.declared.warning.Warning.{Warning}

-- what is said of a filter, at the byte that its first instruction comes from, where this is found of the order of metrics; nothing where it
-- is not asked for
abbrev pub disorder_at : Option ℕ → Order → Option Warning
disorder_at None found = None
disorder_at (Some byte) order.Kept = None
disorder_at (Some byte) (order.Lost shown) = Some (record { instruction = 0; byte = byte; cause = cause.Disordered shown })
disorder_at (Some byte) order.Undecided = None

abbrev pub disorder_of : SurveyedFilterView → Option Order → Option Warning
disorder_of source None = None
disorder_of source (Some found) = disorder_at (slice_get source.places 0) found

-- whether the search could tell what it was asked
abbrev pub is_decided_order : Option Order → Bool
is_decided_order None = true
is_decided_order (Some order.Kept) = true
is_decided_order (Some (order.Lost shown)) = true
is_decided_order (Some order.Undecided) = false
