use Rattle.std.proofs.Common.{◌+◌, ◌*◌, ◌≤◌, All, vec_len}
use Rattle.filter_code.specs.RouteView.{RouteView}
use Rattle.filter_diff.specs.Parts.{IsDecided, IsEnough, IsIn, IsTrueOf, class_limit}
use Rattle.filter_diff.specs.Searches.{AreReal, IsDealt, most_tried_of}
use Rattle.filter_diff.proofs.comparison.compare.Given as goal

-- each route is dealt with or left, and what was found is true; what was tried and what is left to try are not more than all classes
abbrev pub invariant-loop-next : goal.invariant-loop-next
invariant-loop-next l = record {
  dealt : (route : RouteView) → IsIn l.size route → IsDealt l.old l.new l.parts.items l.todo.items route;
  sound : All (IsTrueOf l.old l.new l.size) l.parts.items;
  real : AreReal l.size l.parts.items l.todo.items;
  tried : l.limit + most_tried_of l.size l.todo.items ≤ l.left + class_limit l.size;
  decided : IsEnough l.size l.limit → All IsDecided l.parts.items;
}

-- each class that is tried takes one off what is left of the limit, and leaves no more than so many others
abbrev pub decreases-loop-next : goal.decreases-loop-next
decreases-loop-next l = l.left * 1000 + vec_len l.todo
