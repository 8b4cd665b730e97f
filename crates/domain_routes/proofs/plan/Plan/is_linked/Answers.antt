use Rattle.std.proofs.Common.{subst}
use Rattle.domain_routes.specs.PlanView.{IsPlan}
use Rattle.domain_routes.proofs.plan.Plan.is_linked.Goals as goal

pub returns-clause-both_ways : goal.returns-clause-both_ways
returns-clause-both_ways c =
    let plan : IsPlan c.args.self.now = subst IsPlan c.self.view_is (c.self.invariant.1) in
    plan.both_ways c.args.w c.args.u

pub returns-clause-apart : goal.returns-clause-apart
returns-clause-apart c =
    let plan : IsPlan c.args.self.now = subst IsPlan c.self.view_is (c.self.invariant.1) in
    plan.apart c.args.u
