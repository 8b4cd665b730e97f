-- Links that are fewer by one, which comes back.
use Rattle.std.proofs.Common.{◌∙◌, true, sym, ap, subst}
use Rattle.domain_routes.specs.Edits.{linking}
use Rattle.domain_routes.specs.Still.{HasFewerLinks}
use Rattle.domain_routes.proofs.Linking.{IsLink}
use Rattle.domain_routes.proofs.Restoring.{link_back}
use Rattle.domain_routes.proofs.Still.{cuts_fewer, has_itself}
use Rattle.domain_routes.proofs.plan.Plan.cut.Goals as goal

pub returns-clause-fewer : goal.returns-clause-fewer
returns-clause-fewer c =
    let link : IsLink c.args.self.now c.args.u c.args.w =
    record { plan = c.set_linked.ensures.plan; from = c.requires.u; to = c.requires.w; apart = c.requires.apart } in
    subst (HasFewerLinks c.args.self.now) (sym c.set_linked.ensures.value)
    (cuts_fewer c.args.self.now c.args.self.now c.args.u c.args.w link (has_itself c.args.self.now))

pub returns-clause-back : goal.returns-clause-back
returns-clause-back c =
    let link : IsLink c.args.self.now c.args.u c.args.w =
    record { plan = c.set_linked.ensures.plan; from = c.requires.u; to = c.requires.w; apart = c.requires.apart } in
    λ linked. ap (linking true c.args.u c.args.w) c.set_linked.ensures.value ∙ link_back c.args.self.now c.args.u c.args.w link linked
