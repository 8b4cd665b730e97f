-- The plan where the node has failed is one where it is alone.
use Rattle.std.proofs.Common.{◌∙◌, ap}
use Rattle.domain_routes.specs.PlanView.{PlanView}
use Rattle.domain_cmds.specs.declared.failure.Failing.TheVariants.{Node}
use Rattle.domain_cmds.proofs.Failing.{is_failure}
use Rattle.domain_cmds.proofs.failures.node_failure.Goals as goal

pub returns-clause-ok : goal.returns-clause-ok
returns-clause-ok c =
    let all = c.in_ok-later.ensures.all in
    is_failure c.args.domain.now (all.0) c.args.before.now c.in_ok-later.later.items c.as_slice.result.now
    c.size.result (Node c.args.x) c.failure_of.result (all.1) (all.2) c.as_slice.ensures.value
    (c.size.ensures.value ∙ ap (λ (p : PlanView). p.size) c.routes_without_node.ensures.same) c.failure_of.ensures
