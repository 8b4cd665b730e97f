use Rattle.std.proofs.Common.{◌+◌, ◌-◌, ◌*◌, ◌^◌, ◌<◌, ◌≤◌, All, length}
use Rattle.filter_code.specs.RouteView.{RouteView}
use Rattle.filter_diff.specs.Classes.{IsOfSize}
use Rattle.filter_diff.specs.Parts.{IsIn, class_limit}
use Rattle.filter_diff.specs.Searches.{IsLeft, most_tried_of}
use Rattle.filter_diff.proofs.comparison.all_classes.Given as goal

-- the routes with the lengths so far are left, in classes that have some
abbrev pub invariant-loop-step : goal.invariant-loop-step
invariant-loop-step l = record {
  all : (route : RouteView) → IsIn l.size route → 32 < length route.net + l.step → IsLeft route l.todo.items;
  real : All (IsOfSize l.size) l.todo.items;
  tried : most_tried_of l.size l.todo.items + (l.size + 2) * 2 ^ (34 - l.step) ≤ class_limit l.size;
}
