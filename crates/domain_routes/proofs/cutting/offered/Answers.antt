-- A filter brings nothing nearer.
use Rattle.std.proofs.Common.{MatchBool, suc, subst}
use Rattle.domain_routes.specs.Offers.{ComesBefore, StaysBehind}
use Rattle.domain_routes.proofs.Increasing.{not_taken}
use Rattle.domain_routes.proofs.cutting.offered.Goals as goal

pub returns-then-not-comes_before : goal.returns-then-not-comes_before
returns-then-not-comes_before c =
    not_taken c.args.plan.now c.args.v c.args.u c.args.w c.args.dist c.args.route c.requires.u c.requires.w c.requires.reachable
    (subst (λ b. MatchBool b (ComesBefore (suc c.args.dist) c.args.w c.args.route) (StaysBehind (suc c.args.dist) c.args.w c.args.route))
    c.if-not-comes_before.true c.comes_before.ensures)
