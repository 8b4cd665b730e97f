-- The plan where the link has failed is that where it is cut.
use Rattle.std.proofs.Common.{◌∙◌, false, refl, ap}
use Rattle.domain_routes.specs.Edits.{linking}
use Rattle.domain_routes.specs.PlanView.{PlanView}
use Rattle.domain_cmds.specs.declared.failure.Failing.TheVariants.{Link}
use Rattle.domain_cmds.proofs.Failing.{is_failure}
use Rattle.domain_cmds.proofs.failures.link_failure.Goals as goal

pub returns-clause-ok : goal.returns-clause-ok
returns-clause-ok c =
    is_failure c.args.domain.now (linking false c.args.u c.args.w c.args.domain.now) c.args.before.now c.in_ok-after.after.items c.as_slice.result.now
    c.size.result (Link c.args.u c.args.w) c.failure_of.result refl c.in_ok-after.ensures.all c.as_slice.ensures.value
    (c.size.ensures.value ∙ ap (λ (p : PlanView). p.size) c.routes_without_link.ensures.same) c.failure_of.ensures
