use Rattle.std.proofs.Common.{◌≤◌, arith, rules}
use Rattle.filter_diff.specs.Searches.{most_tried}
use Rattle.filter_diff.proofs.Counted.{taken, tried_some}
use Rattle.filter_diff.proofs.Expected.{size_taken}
use Rattle.filter_diff.proofs.Ordered.{kept_taken, order_kept}
use Rattle.filter_diff.proofs.ordering.check_order.Goals as goal

pub loop-next-preserved : goal.loop-next-preserved
loop-next-preserved c = record {
  kept = λ route is_in. kept_taken c.args.code.now c.args.size route is_in _ _ _ c.in-Some.next c.in-Some.ensures.items
      (c.in_ok-visit.ensures.kept route) (c.in_ok-visit.ensures.covered c.in-None.is route is_in) (c.loop-next.invariant.kept route is_in);
  tried =
      let before = taken c.args.size c.args.limit c.loop-next.left _ _ _ c.in-Some.next c.in-Some.ensures.items c.loop-next.invariant.tried in
      omega (arith, before, c.in_ok-visit.ensures.tried c.in-None.is);
  real = c.in_ok-visit.ensures.real (size_taken c.args.size _ _ c.in-Some.next c.in-Some.ensures.items c.loop-next.invariant.real).0;
}

pub returns-then-left-eq0-clause-decided : goal.returns-then-left-eq0-clause-decided
returns-then-left-eq0-clause-decided c enough =
    let before = taken c.args.size c.args.limit c.loop-next.left _ _ _ c.in-Some.next c.in-Some.ensures.items c.loop-next.invariant.tried in
    let some : 1 ≤ most_tried c.args.size c.in-Some.next = tried_some c.args.size c.in-Some.next in
    absurd (omega (arith, before, some, enough.classes))

pub returns-clause-found : goal.returns-clause-found
returns-clause-found c = order_kept c.args.code.now c.args.size c.loop-next.todo.items (search rules) c.loop-next.invariant.kept
