-- The plan, and what is known of its filters, stay as they are.
use Rattle.std.proofs.Common.{ap, ◌∙◌}
use Rattle.domain_routes.specs.PlanView.{PlanView}
use Rattle.domain_routes.specs.Still.{BetweenView}
use Rattle.domain_cmds.proofs.Noting.{kept_marked, kept_still}
use Rattle.domain_cmds.proofs.planning.Planning.mark.Goals as goal

pub invariant_of-self : goal.invariant_of-self
invariant_of-self c =
    let i = c.self.inside in
    kept_still i.filters.size i.since i.domain i.origins i.filters.named c.self.invariant c.all_routes.new.self c.all_routes.ensures.same

pub invariant_of-self-in_err-between : goal.invariant_of-self-in_err-between
invariant_of-self-in_err-between c =
    let i = c.self.inside in
    kept_still i.filters.size i.since i.domain i.origins i.filters.named c.self.invariant c.all_routes.new.self c.all_routes.ensures.same

pub invariant_of-self-2 : goal.invariant_of-self-2
invariant_of-self-2 c =
    let i = c.self.inside in
    kept_marked i.filters.size i.since i.domain i.origins i.filters.named c.self.invariant c.all_routes.new.self c.in_ok-between.between
    c.all_routes.ensures.same
    (ap (λ (b : BetweenView). b.most.size) c.in_ok-between.ensures ∙ ap (λ (p : PlanView). p.size) c.plan.ensures)
