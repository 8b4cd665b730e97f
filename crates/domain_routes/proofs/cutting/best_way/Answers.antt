-- One way more.
use Rattle.std.proofs.Common.{◌≡◌, ◌∙◌, ⊎_elim, ◌+◌, true, false, sym, subst, arith}
use Rattle.std.proofs.lemmas.Bool.{cases_Bool, false≢true}
use Rattle.domain_routes.specs.Routes.{route_at}
use Rattle.domain_routes.specs.Solving.{is_done}
use Rattle.domain_routes.specs.Topology.{topology}
use Rattle.domain_routes.proofs.Left.{IsBestBelow, below_more, below_skips}
use Rattle.domain_routes.proofs.cutting.best_way.Goals as goal

pub loop-w-preserved : goal.loop-w-preserved
loop-w-preserved c =
    ⊎_elim
    (λ (is : is_done c.args.done.now c.loop-w.w ≡ true).
    below_more (topology c.args.plan.now c.args.v) (route_at c.args.plan.now.size c.args.routes.now) (is_done c.args.done.now) c.args.u c.loop-w.w
    c.loop-w.best c.offered_through-best.result (omega arith) is c.loop-w.invariant (c.offered_through-best.ensures.done is))
    (λ (waits : is_done c.args.done.now c.loop-w.w ≡ false).
    subst (IsBestBelow (topology c.args.plan.now c.args.v) (route_at c.args.plan.now.size c.args.routes.now) (is_done c.args.done.now) c.args.u (c.loop-w.w + 1))
    (sym (c.offered_through-best.ensures.waits waits))
    (below_skips (topology c.args.plan.now c.args.v) (route_at c.args.plan.now.size c.args.routes.now) (is_done c.args.done.now) c.args.u c.loop-w.w
    c.loop-w.best c.loop-w.invariant (λ done. absurd (false≢true (sym waits ∙ done)))))
    (cases_Bool (is_done c.args.done.now c.loop-w.w))
