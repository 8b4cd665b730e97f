-- What is said of a filter's code as it stands, without a run of it. (This project's own choice.)
use Rattle.std.specs.Prelude.{List, ◌++◌}
use Rattle.filter_lint.specs.Arithmetic.{wrapping_operations}
use Rattle.filter_lint.specs.Metrics.{unreachable_metrics}
use Rattle.filter_lint.specs.Sets.{overlapping_members}
use Rattle.filter_lint.specs.SurveyedFilters.{SurveyedFilterView}
use Rattle.filter_lint.specs.Variables.{unread_variables}
use Rattle.filter_lint.specs.declared.warning.Warning.{Warning}

abbrev pub hints : SurveyedFilterView → List Warning
hints source = wrapping_operations source ++ (overlapping_members source ++ (unread_variables source ++ unreachable_metrics source))
