use Rattle.std.proofs.Common.{length, refl, sym, subst, ◌∙◌}
use Rattle.netchange_core.specs.declared.best_route.BestRoute.{BestRoute}
use Rattle.netchange_core.specs.Best.{neighbour_distances}
use Rattle.netchange_core.specs.Leading.{Leads}
use Rattle.netchange_core.proofs.Nearest.{leads_nearest, nearest_leads}
use Rattle.netchange_core.proofs.Opened.{other_route, own_route}
use Rattle.netchange_core.proofs.laws.best_route_leads.Goals as goal

pub returns-clause-own : goal.returns-clause-own
returns-clause-own c = λ w. own_route w.opening w.opening.me (neighbour_distances w w.opening.me) refl

pub returns-clause-leads : goal.returns-clause-leads
returns-clause-leads c = λ w v other.
    let P : BestRoute → Type 0 = λ r. Leads w.opening.size (length (neighbour_distances w v)) (neighbour_distances w v) r in
    subst P (sym (other_route w.opening v (neighbour_distances w v) other))
    (nearest_leads w.opening.size (neighbour_distances w v))

pub returns-clause-alone : goal.returns-clause-alone
returns-clause-alone c = λ w v other route leads.
    leads_nearest w.opening.size (neighbour_distances w v) route leads
    ∙ sym (other_route w.opening v (neighbour_distances w v) other)
