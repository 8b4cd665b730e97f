use Rattle.std.proofs.Common.{◌≤◌, inl, inr, arith}
use Rattle.filter_diff.specs.Searches.{most_tried}
use Rattle.filter_diff.proofs.Counted.{taken, tried_some}
use Rattle.filter_diff.proofs.Dealt.{dealt_parts, tried}
use Rattle.filter_diff.proofs.Real.{real_taken}
use Rattle.filter_diff.proofs.comparison.compare.Goals as goal

pub loop-next-preserved-in-Continue-branch-2 : goal.loop-next-preserved-in-Continue-branch-2
loop-next-preserved-in-Continue-branch-2 c = record {
  dealt = λ route is_in. tried c.args.old.now c.args.new.now route _ _ _ _ _ c.in-Some.next c.args.size c.in-Some.ensures.items is_in
      (dealt_parts c.args.old.now c.args.new.now route _ _ _ (c.in_ok-push_part.ensures.kept route))
      (λ of. inl (inr (c.in_ok-push_part.ensures.covered route is_in of))) (c.loop-next.invariant.dealt route is_in);
  real =
      let taken = real_taken c.args.size _ _ _ c.in-Some.next c.in-Some.ensures.items c.loop-next.invariant.real in
      record { found = c.in_ok-push_part.ensures.real taken.0.found; left = taken.0.left };
  sound = c.in_ok-push_part.ensures.sound c.loop-next.invariant.sound;
  tried =
      let before = taken c.args.size c.args.limit c.loop-next.left _ _ _ c.in-Some.next c.in-Some.ensures.items c.loop-next.invariant.tried in
      omega (arith, before);
  decided = λ enough.
      let before = taken c.args.size c.args.limit c.loop-next.left _ _ _ c.in-Some.next c.in-Some.ensures.items c.loop-next.invariant.tried in
      let some : 1 ≤ most_tried c.args.size c.in-Some.next = tried_some c.args.size c.in-Some.next in
      absurd (omega (arith, before, some, enough.classes));
}

pub loop-next-preserved : goal.loop-next-preserved
loop-next-preserved c = record {
  dealt = λ route is_in. tried c.args.old.now c.args.new.now route _ _ _ _ _ c.in-Some.next c.args.size c.in-Some.ensures.items is_in
      (c.in_ok-visit.ensures.kept route) (c.in_ok-visit.ensures.covered route is_in) (c.loop-next.invariant.dealt route is_in);
  real = c.in_ok-visit.ensures.real (real_taken c.args.size _ _ _ c.in-Some.next c.in-Some.ensures.items c.loop-next.invariant.real).0;
  sound = c.in_ok-visit.ensures.sound c.loop-next.invariant.sound;
  tried =
      let before = taken c.args.size c.args.limit c.loop-next.left _ _ _ c.in-Some.next c.in-Some.ensures.items c.loop-next.invariant.tried in
      omega (arith, before, c.in_ok-visit.ensures.tried);
  decided = λ enough. c.in_ok-visit.ensures.decided enough.smallest (c.loop-next.invariant.decided enough);
}

pub push_part-requires-clause-real : goal.push_part-requires-clause-real
push_part-requires-clause-real c =
    let real = (real_taken c.args.size _ _ _ c.in-Some.next c.in-Some.ensures.items c.loop-next.invariant.real).1 in
    record { bits = real.bits; fits = real.fits; reachable = real.reachable }

pub visit-requires-clause-real : goal.visit-requires-clause-real
visit-requires-clause-real c =
    let real = (real_taken c.args.size _ _ _ c.in-Some.next c.in-Some.ensures.items c.loop-next.invariant.real).1 in
    record { bits = real.bits; fits = real.fits; reachable = real.reachable }
