-- The routes that are left are the best among themselves.
use Rattle.std.proofs.Common.{◌∙◌, Bool, List, sym, subst}
use Rattle.domain_routes.specs.Left.{AreBestBefore}
use Rattle.domain_routes.specs.Routes.{route_at}
use Rattle.domain_routes.specs.Solving.{is_done}
use Rattle.domain_routes.specs.Topology.{topology}
use Rattle.domain_routes.specs.declared.best.Best.{Best}
use Rattle.domain_routes.proofs.Left.{were_best}
use Rattle.domain_routes.proofs.plan.Plan.routes_after_cuts.Goals as goal

pub take_ways-requires-clause-best : goal.take_ways-requires-clause-best
take_ways-requires-clause-best c =
    subst (λ (r : List Best). AreBestBefore (topology c.args.self.now c.args.v) c.args.v (route_at c.args.self.now.size r) (is_done c.deref.result.now) 0)
    (sym (c.deref_mut.ensures.value ∙ c.in_ok-routes.ensures.items))
    (subst (λ (d : List Bool). AreBestBefore (topology c.args.self.now c.args.v) c.args.v (route_at c.args.self.now.size c.args.before.now) (is_done d) 0)
    (sym c.deref.ensures.value)
    (were_best c.args.self.now c.args.v c.args.before.now c.requires.before c.requires.node (is_done c.in_ok-done.done.items) c.in_ok-done.ensures.left))
