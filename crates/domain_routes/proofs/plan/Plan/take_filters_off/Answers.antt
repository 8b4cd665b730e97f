use Rattle.std.proofs.Common.{◌≡◌, sym, subst, ap, arith, List, slice_set}
use Rattle.std.proofs.lemmas.Grind.{common_steps}
use Rattle.domain_routes.specs.Edits.{half_unfiltered, unfiltered}
use Rattle.domain_routes.specs.PlanView.{IsPlan, PeerView, PlanView}
use Rattle.domain_routes.proofs.Filtering.{unfiltered_plan}
use Rattle.domain_routes.proofs.plan.Plan.take_filters_off.Goals as goal

pub invariant_of-self : goal.invariant_of-self
invariant_of-self c =
    let p : PlanView = record { size = c.self.inside.opening.size; prefixes = c.self.inside.opening.prefixes; rows = c.self.inside.rows.items } in
    let half : slice_set c.self.inside.rows.items c.from.result c.drop_imports.new.self ≡ (half_unfiltered c.args.u c.args.w p).rows =
    grind (arith, common_steps) in
    let same : slice_set (slice_set c.self.inside.rows.items c.from.result c.drop_imports.new.self) c.from-2.result c.drop_exports.new.self
    ≡ (unfiltered c.args.u c.args.w p).rows = grind (arith, common_steps) in
    let size = ap (λ (q : PlanView). q.size) c.self.view_is in (
      c.self.invariant.0,
      subst (λ (rows : List (List PeerView)). IsPlan (record p { rows = rows })) (sym same)
          (unfiltered_plan p c.args.u c.args.w (c.self.invariant.1) (omega (arith, size)) (omega (arith, size))),
    )
