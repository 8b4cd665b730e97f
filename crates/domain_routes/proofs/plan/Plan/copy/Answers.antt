-- The copy of a plan is one.
use Rattle.std.proofs.Common.{◌∙◌, List, sym, subst, ap}
use Rattle.netchange_core.specs.OpeningView.{OpeningView}
use Rattle.domain_routes.specs.PlanView.{IsPlan, PeerView}
use Rattle.domain_routes.proofs.plan.Plan.copy.Goals as goal

pub invariant_of-result : goal.invariant_of-result
invariant_of-result c = (
  ap (λ (o : OpeningView). o.me) c.in_ok-opening.ensures ∙ c.self.invariant.0,
  subst (λ (rows : List (List PeerView)). IsPlan (record { size = c.in_ok-opening.opening.size; prefixes = c.in_ok-opening.opening.prefixes; rows = rows }))
      (sym (c.in_ok-rows.ensures ∙ c.as_slice.ensures.value))
      (subst (λ (o : OpeningView). IsPlan (record { size = o.size; prefixes = o.prefixes; rows = c.self.inside.rows.items }))
      (sym c.in_ok-opening.ensures) (c.self.invariant.1)),
)
