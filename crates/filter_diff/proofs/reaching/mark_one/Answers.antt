use Rattle.std.proofs.Common.{subst}
use Rattle.filter_code.specs.RouteView.{RouteView}
use Rattle.filter_diff.specs.Marking.{AreSound}
use Rattle.filter_diff.proofs.reaching.mark_one.Goals as goal

pub returns-then-mark_route-clause-sound : goal.returns-then-mark_route-clause-sound
returns-then-mark_route-clause-sound c =
    subst (λ (r : RouteView). AreSound c.args.code.now r.size c.args.marks.now → AreSound c.args.code.now r.size c.mark_route.new.marks)
    c.in-Some.ensures.1 c.mark_route.ensures.sound

pub returns-else-mark_route-clause-sound : goal.returns-else-mark_route-clause-sound
returns-else-mark_route-clause-sound c =
    subst (λ (r : RouteView). AreSound c.args.code.now r.size c.args.marks.now → AreSound c.args.code.now r.size c.mark_route.new.marks)
    c.in-Some.ensures.1 c.mark_route.ensures.sound
