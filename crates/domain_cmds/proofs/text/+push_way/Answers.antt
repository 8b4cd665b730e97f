-- The next hop is nearer, and what is added from there on is the rest of the way.
use Rattle.std.proofs.Common.{◌≡◌, ◌<◌, ℕ, ◌∷◌, sym, ap, ◌∙◌, arith}
use Rattle.std.proofs.lemmas.Result.{on_ok_weaker}
use Rattle.netchange_core.specs.declared.reply.Via.TheVariants.{Node}
use Rattle.domain_routes.specs.declared.best.Best.{Best}
use Rattle.domain_cmds.specs.Texts.{route_in}
use Rattle.domain_cmds.proofs.OnTheWay.{hop_member, hop_nearer, one_more}
use Rattle.domain_cmds.proofs.text.+push_way.Goals as goal

pub push_way-requires : goal.push_way-requires
push_way-requires t c =
    let at : c.at.result ≡ route_in c.args.plan.now.size c.args.routes.now c.args.u =
    c.at.ensures ∙ ap (λ (n : ℕ). route_in n c.args.routes.now c.args.u) c.size.ensures.value in
    let via : (route_in c.args.plan.now.size c.args.routes.now c.args.u).via ≡ Node c.in-Node.w = ap (λ (b : Best). b.via) (sym at) ∙ c.in-Node.is in
    let near : (route_in c.args.plan.now.size c.args.routes.now c.in-Node.w).dist < (route_in c.args.plan.now.size c.args.routes.now c.args.u).dist =
    hop_nearer c.args.plan.now c.args.v c.args.routes.now c.requires.routes c.args.u c.requires.u c.in-Node.w via in (
      omega (arith, near, c.decreases),
      (
        c.requires.routes,
        (
          hop_member c.args.plan.now c.args.v c.args.routes.now c.requires.routes c.args.u c.requires.u c.in-Node.w via,
          omega (arith, near, c.requires.reached),
        ),
      ),
    )

pub returns-in-Node-clause-ok : goal.returns-in-Node-clause-ok
returns-in-Node-clause-ok t c =
    let at : c.at.result ≡ route_in c.args.plan.now.size c.args.routes.now c.args.u =
    c.at.ensures ∙ ap (λ (n : ℕ). route_in n c.args.routes.now c.args.u) c.size.ensures.value in
    let via : (route_in c.args.plan.now.size c.args.routes.now c.args.u).via ≡ Node c.in-Node.w = ap (λ (b : Best). b.via) (sym at) ∙ c.in-Node.is in
    on_ok_weaker c.push_way.result
    (λ way. (
      c.in-Node.w ∷ way.0,
      (via, way.1),
      one_more c.args.out.now.items c.push_step.new.out.items c.push_way.new.out.items c.args.u (c.in-Node.w ∷ way.0) c.in_ok-push_step.ensures.ok way.2,
    ))
    c.push_way.ensures.ok
