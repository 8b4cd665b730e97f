-- All rules, one after another. (This project's own choice.)
use Rattle.std.specs.Prelude.{◌≡◌, ℕ, Bool, if◌then◌else◌, IfSome, List, Option, [], ◌++◌, is_some, option_to_list}
use Rattle.filter_code.specs.CodeView.{CodeView}
use Rattle.filter_diff.specs.Ordering.{IsOrderOf}
use Rattle.filter_diff.specs.Reaching.{IsReach}
use Rattle.filter_diff.specs.declared.mark.Mark.{Mark}
use Rattle.filter_diff.specs.declared.mark.Reach.{Reach}
use Rattle.filter_diff.specs.declared.ordering.Order.{Order}
use Rattle.filter_lint.specs.Commands.{unreached_commands}
use Rattle.filter_lint.specs.Conditions.{constant_conditions}
use Rattle.filter_lint.specs.Disorders.{disorder_of, is_decided_order}
use Rattle.filter_lint.specs.Hints.{hints}
use Rattle.filter_lint.specs.Lowering.{metrics_not_lowered}
use Rattle.filter_lint.specs.SurveyedFilters.{SurveyedFilterView}
use Rattle.filter_lint.specs.Watching.{watched_places}
use Rattle.filter_lint.specs.declared.rules.Warnings.{Warnings}
use Rattle.filter_lint.specs.declared.warning.Warning.{Warning}

-- what is said where all routes were tried
abbrev pub on_routes : SurveyedFilterView → List Mark → List Warning
on_routes source marks = constant_conditions source marks ++ (unreached_commands source marks ++ metrics_not_lowered source marks)

abbrev pub said_on_routes : SurveyedFilterView → Reach → List Warning
said_on_routes source reach = if reach.is_complete then on_routes source reach.marks.items else []

-- all that is said, where this is found of the instructions that runs come to, and of the order of metrics, if that is asked for
abbrev pub said_of : SurveyedFilterView → Reach → Option Order → List Warning
said_of source reach order = said_on_routes source reach ++ (option_to_list (disorder_of source order) ++ hints source)

-- the warnings that follow from what is found of the instructions that runs come to, and of the order of metrics where that is asked for
pub record AreFound (program : CodeView) (text places : List ℕ) (size : ℕ) (asks_order : Bool) (all : Warnings) : Type 0 where
  pub reach : Reach
  pub is_reach : IsReach program size (watched_places (record { text = text; program = program; places = places; size = size })) reach
  pub order : Option Order
  pub asked : is_some order ≡ asks_order
  pub is_order : IfSome order (IsOrderOf program size)
  pub found_is : all.found.items ≡ said_of (record { text = text; program = program; places = places; size = size }) reach order
  pub complete_is : all.is_complete ≡ reach.is_complete
  pub ordered_is : all.is_ordered ≡ is_decided_order order
