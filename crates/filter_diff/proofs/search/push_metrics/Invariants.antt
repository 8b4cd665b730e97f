use Rattle.std.proofs.Common.{◌≡◌, ◌+◌, ◌-◌, ◌*◌, ◌<◌, All, length, vec_len}
use Rattle.filter_code.specs.RouteView.{RouteView}
use Rattle.filter_diff.specs.Classes.{IsOf, IsOfSize}
use Rattle.filter_diff.specs.Parts.{IsIn}
use Rattle.filter_diff.specs.Searches.{IsLeft, most_tried_of, split_by_bits}
use Rattle.filter_diff.proofs.search.push_metrics.Given as goal

-- what was left is left, and so are the routes with the metrics so far
abbrev pub invariant-loop-step : goal.invariant-loop-step
invariant-loop-step l = record {
  kept : (route : RouteView) → IsLeft route l.initial.todo.items → IsLeft route l.todo.items;
  real : All (IsOfSize l.class.size) l.initial.todo.items → All (IsOfSize l.class.size) l.todo.items;
  split : (route : RouteView) → IsIn l.class.size route → IsOf l.class route → l.class.size < route.metric + l.step → IsLeft route l.todo.items;
  few : vec_len l.todo ≡ vec_len l.initial.todo + l.step;
  tried : most_tried_of l.class.size l.todo.items
      ≡ most_tried_of l.class.size l.initial.todo.items + l.step * split_by_bits (l.class.len - length l.class.known);
}
