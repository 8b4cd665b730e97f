-- One node more is done.
use Rattle.std.proofs.Common.{◌∙◌, arith, length-set, slice_set, subst, true, get_or-set_same, get_or-set_other}
use Rattle.domain_routes.specs.Routes.{route_at}
use Rattle.domain_routes.specs.Solving.{IsNearest, is_done}
use Rattle.domain_routes.specs.Topology.{topology}
use Rattle.domain_routes.proofs.Left.{still_done}
use Rattle.domain_routes.proofs.Offering.{step_settles}
use Rattle.domain_routes.proofs.Waiting.{fewer_wait}
use Rattle.domain_routes.proofs.cutting.complete.Goals as goal

pub loop-w-smaller : goal.loop-w-smaller
loop-w-smaller c = fewer_wait c.loop-w.done c.in-Some.w c.in-Some.ensures.waits

pub loop-w-preserved : goal.loop-w-preserved
loop-w-preserved c =
    let near : IsNearest c.args.plan.now.size (route_at c.args.plan.now.size c.loop-w.routes) (is_done c.loop-w.done) c.in-Some.w =
    subst (λ n. IsNearest n (route_at n c.loop-w.routes) (is_done c.loop-w.done) c.in-Some.w) c.loop-w.invariant.one_a_node c.in-Some.ensures in
    record {
      one_a_node = omega arith;
      marks = length-set c.loop-w.done c.in-Some.w true ∙ c.loop-w.invariant.marks;
      own = still_done c.loop-w.done c.in-Some.w c.args.v c.loop-w.invariant.own;
      best = step_settles (topology c.args.plan.now c.args.v) c.args.v (route_at c.args.plan.now.size c.loop-w.routes)
          (route_at c.args.plan.now.size c.offer.new.routes) (is_done c.loop-w.done) (is_done (slice_set c.loop-w.done c.in-Some.w true)) c.in-Some.w
          (record {
            settled = c.loop-w.invariant.best;
            member = near.member;
            offered = c.offer.ensures.offered c.if-not-offer.false;
            keeps = c.offer.ensures.keeps;
            own = c.offer.ensures.keeps c.args.v c.requires.v (still_done c.loop-w.done c.in-Some.w c.args.v c.loop-w.invariant.own);
            done = get_or-set_same c.loop-w.done c.in-Some.w true true (omega (arith, near.member, c.loop-w.invariant.marks));
            others = λ x other. get_or-set_other c.loop-w.done c.in-Some.w x true true other;
          });
    }
