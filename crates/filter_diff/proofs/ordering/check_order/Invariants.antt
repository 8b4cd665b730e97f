use Rattle.std.proofs.Common.{◌⊎◌, ◌+◌, ◌*◌, ◌≤◌, All, vec_len}
use Rattle.filter_code.specs.RouteView.{RouteView}
use Rattle.filter_diff.specs.Classes.{IsOfSize}
use Rattle.filter_diff.specs.Ordering.{IsKeptAt}
use Rattle.filter_diff.specs.Parts.{IsIn, class_limit}
use Rattle.filter_diff.specs.Searches.{IsLeft, most_tried_of}
use Rattle.filter_diff.proofs.ordering.check_order.Given as goal

-- the order is kept at each route, or the route is left; what was tried and what is left to try are not more than all classes
abbrev pub invariant-loop-next : goal.invariant-loop-next
invariant-loop-next l = record {
  kept : (route : RouteView) → IsIn l.size route → IsKeptAt l.code route ⊎ IsLeft route l.todo.items;
  real : All (IsOfSize l.size) l.todo.items;
  tried : l.limit + most_tried_of l.size l.todo.items ≤ l.left + class_limit l.size;
}

-- each class that is tried takes one off what is left of the limit, and leaves no more than so many others
abbrev pub decreases-loop-next : goal.decreases-loop-next
decreases-loop-next l = l.left * 1000 + vec_len l.todo
