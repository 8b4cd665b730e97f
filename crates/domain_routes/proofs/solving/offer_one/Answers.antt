-- A filter brings nothing nearer.
use Rattle.std.proofs.Common.{MatchBool, suc, subst, arith}
use Rattle.netchange_core.specs.declared.reply.Via.TheVariants.{Local}
use Rattle.domain_routes.specs.Offers.{ComesBefore, StaysBehind}
use Rattle.domain_routes.specs.Routes.{route_at}
use Rattle.domain_routes.specs.declared.best.Best.{Best}
use Rattle.domain_routes.proofs.Increasing.{not_taken}
use Rattle.domain_routes.proofs.Left.{route_read}
use Rattle.domain_routes.proofs.solving.offer_one.Goals as goal

pub returns-then-not-comes_before-clause-offered : goal.returns-then-not-comes_before-clause-offered
returns-then-not-comes_before-clause-offered c =
    let size = c.args.plan.now.size in
    let routes = c.args.routes.now in
    let any : Best = record { dist = 0; via = Local } in
    let matched = subst (λ (r : Best). MatchBool c.comes_before.result (ComesBefore (suc c.args.dist) c.args.w r) (StaysBehind (suc c.args.dist) c.args.w r))
    (route_read size routes c.from-k.result c.args.u any (omega (arith, c.from-k.ensures)) (omega (arith, c.requires.u, c.requires.one_a_node)))
    c.comes_before.ensures in
    not_taken c.args.plan.now c.args.v c.args.u c.args.w c.args.dist (route_at size routes c.args.u) c.requires.u c.requires.w c.requires.reachable
    (subst (λ b. MatchBool b (ComesBefore (suc c.args.dist) c.args.w (route_at size routes c.args.u)) (StaysBehind (suc c.args.dist) c.args.w (route_at size routes c.args.u)))
    c.if-not-comes_before.true matched)
