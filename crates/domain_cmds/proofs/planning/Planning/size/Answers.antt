-- The plan of the domain is one.
use Rattle.std.proofs.Common.{subst}
use Rattle.domain_routes.specs.PlanView.{IsPlan}
use Rattle.domain_cmds.specs.State.{PlanningView}
use Rattle.domain_cmds.proofs.planning.Planning.size.Goals as goal

pub returns-clause-limits : goal.returns-clause-limits
returns-clause-limits c = subst (λ (p : PlanningView). IsPlan p.plan) c.self.view_is c.size.ensures.limits
