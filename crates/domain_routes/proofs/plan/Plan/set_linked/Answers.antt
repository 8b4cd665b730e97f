use Rattle.std.proofs.Common.{◌≡◌, sym, subst, ap, arith, List, slice_set}
use Rattle.std.proofs.lemmas.Grind.{common_steps}
use Rattle.domain_routes.specs.Edits.{half_linking, linking}
use Rattle.domain_routes.specs.PlanView.{IsPlan, PeerView, PlanView}
use Rattle.domain_routes.proofs.Linking.{linking_plan}
use Rattle.domain_routes.proofs.plan.Plan.set_linked.Goals as goal

pub invariant_of-self : goal.invariant_of-self
invariant_of-self c =
    let p : PlanView = record { size = c.self.inside.opening.size; prefixes = c.self.inside.opening.prefixes; rows = c.self.inside.rows.items } in
    let half : slice_set c.self.inside.rows.items c.from.result c.set_linked.new.self ≡ (half_linking c.args.linked c.args.u c.args.w p).rows =
    grind (arith, common_steps) in
    let same : slice_set (slice_set c.self.inside.rows.items c.from.result c.set_linked.new.self) c.from-2.result c.set_linked-2.new.self
    ≡ (linking c.args.linked c.args.u c.args.w p).rows = grind (arith, common_steps) in
    let size = ap (λ (q : PlanView). q.size) c.self.view_is in (
      c.self.invariant.0,
      subst (λ (rows : List (List PeerView)). IsPlan (record p { rows = rows })) (sym same)
          (linking_plan p c.args.u c.args.w c.args.linked
          (record { plan = c.self.invariant.1; from = omega (arith, size); to = omega (arith, size); apart = c.requires.apart })),
    )

pub returns-clause-plan : goal.returns-clause-plan
returns-clause-plan c = subst IsPlan c.self.view_is (c.self.invariant.1)
