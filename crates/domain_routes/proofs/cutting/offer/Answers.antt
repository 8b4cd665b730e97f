-- One node more was offered the way.
use Rattle.std.proofs.Common.{◌∙◌, ℕ, arith, slice_index_or}
use Rattle.netchange_core.specs.declared.reply.Via.TheVariants.{Local}
use Rattle.domain_routes.specs.Routes.{route_at}
use Rattle.domain_routes.specs.Solving.{is_done}
use Rattle.domain_routes.specs.Topology.{topology}
use Rattle.domain_routes.specs.declared.best.Best.{Best}
use Rattle.domain_routes.proofs.Left.{keeps_more, offered_more}
use Rattle.domain_routes.proofs.cutting.offer.Goals as goal

pub loop-u-preserved : goal.loop-u-preserved
loop-u-preserved c =
    let size : ℕ = c.args.plan.now.size in
    let any : Best = record { dist = 0; via = Local } in
    let dist : ℕ = (slice_index_or c.args.routes.now c.args.w any).dist in
    let first : ℕ → Best = route_at size c.args.routes.now in
    let old : ℕ → Best = route_at size c.loop-u.routes in
    let new : ℕ → Best = route_at size c.offer_one.new.routes in
    record {
      one_a_node = omega arith;
      offered = offered_more (topology c.args.plan.now c.args.v) c.args.w dist c.loop-u.u first old new c.loop-u.invariant.offered
          c.loop-u.invariant.behind (c.offer_one.ensures.offered c.if-not-offer_one.false) c.offer_one.ensures.others;
      keeps = keeps_more (is_done c.args.done.now) c.loop-u.u first old new c.loop-u.invariant.keeps c.offer_one.ensures.keeps c.offer_one.ensures.others;
      behind = λ x far.
          c.offer_one.ensures.others x (λ same. absurd (omega (arith, far, same))) ∙ c.loop-u.invariant.behind x (omega (arith, far));
    }
