use Rattle.std.proofs.Common.{◌≡◌, ◌⊎◌, ◌+◌, ◌*◌, ◌≤◌, All, length, map, vec_len}
use Rattle.filter_code.specs.RouteView.{RouteView}
use Rattle.filter_diff.specs.Classes.{IsOfSize}
use Rattle.filter_diff.specs.Marking.{AreAllMarked, AreSound, Extend, unmarked}
use Rattle.filter_diff.specs.Parts.{IsIn, class_limit}
use Rattle.filter_diff.specs.Searches.{IsLeft, most_tried_of}
use Rattle.filter_diff.specs.Exploring.{AreExplored}
use Rattle.filter_diff.proofs.reaching.reach.Given as goal

-- what the run on each route comes to is marked, or the route is left; what was tried and what is left to try are not more than all classes
abbrev pub invariant-loop-next : goal.invariant-loop-next
invariant-loop-next l = record {
  marked : (route : RouteView) → IsIn l.size route → AreAllMarked l.code l.marks.items route ⊎ IsLeft route l.todo.items;
  real : All (IsOfSize l.size) l.todo.items;
  tried : l.limit + most_tried_of l.size l.todo.items ≤ l.left + class_limit l.size;
  more : Extend (map unmarked l.watched) l.marks.items;
  sound : AreSound l.code l.size l.marks.items;
  places : length l.explored.items ≡ length l.code.instrs;
  explored : AreExplored l.code l.marks.items l.explored.items;
}

-- each class that is tried takes one off what is left of the limit, and leaves no more than so many others
abbrev pub decreases-loop-next : goal.decreases-loop-next
decreases-loop-next l = l.left * 1000 + vec_len l.todo
