-- One link less; and where the rest of them is cut, the node is alone in the plan before it too.
use Rattle.std.proofs.Common.{◌≡◌, ◌∙◌, ◌+◌, ◌<◌, ℕ, true, false, ap, sym, subst, arith}
use Rattle.std.proofs.lemmas.Result.{IfOk-weaker}
use Rattle.domain_routes.specs.Edits.{linking}
use Rattle.domain_routes.specs.PlanView.{PlanView, is_linked}
use Rattle.domain_routes.proofs.Linking.{IsLink}
use Rattle.domain_routes.proofs.Still.{fewer_on}
use Rattle.domain_cmds.specs.Failures.{IsAlone}
use Rattle.domain_cmds.proofs.Alone.{alone_before, link_of, one_less}
use Rattle.domain_cmds.proofs.without.+routes_without_links.Goals as goal

pub routes_without_links-all-requires : goal.routes_without_links-all-requires
routes_without_links-all-requires t c =
    let linked : is_linked c.args.plan.now c.args.x c.args.w ≡ true = sym c.is_linked.ensures.value ∙ c.if-not-is_linked.false in
    let short : c.args.w < c.args.plan.now.size = omega (arith, c.if-w-size.false, c.size.ensures.value) in
    let link : IsLink c.args.plan.now c.args.x c.args.w =
    link_of c.args.plan.now c.args.x c.args.w c.size.ensures.limits c.requires.node short linked in
    let size : c.cut.new.self.size ≡ c.args.plan.now.size = ap (λ (p : PlanView). p.size) c.cut.ensures.value in (
      omega (arith, c.decreases, size, short),
      (
        omega (arith, size, c.requires.node),
        (
          omega (arith, size, short),
          (
            subst (λ (p : PlanView). (k : ℕ) → k < c.args.w + 1 → is_linked p c.args.x k ≡ false) (sym c.cut.ensures.value)
                (one_less c.args.plan.now c.args.x c.args.w link c.requires.cut),
            record {
              whole = c.requires.before.whole;
              fewer = fewer_on c.requires.before.whole c.args.plan.now c.cut.new.self c.requires.before.fewer c.cut.ensures.fewer;
              all = c.requires.before.all;
            },
          ),
        ),
      ),
    )

pub returns-clause-all : goal.returns-clause-all
returns-clause-all t c =
    let linked : is_linked c.args.plan.now c.args.x c.args.w ≡ true = sym c.is_linked.ensures.value ∙ c.if-not-is_linked.false in
    let link : IsLink c.args.plan.now c.args.x c.args.w =
    link_of c.args.plan.now c.args.x c.args.w c.size.ensures.limits c.requires.node (omega (arith, c.if-w-size.false, c.size.ensures.value)) linked in
    IfOk-weaker c.routes_without_links-all.result _ _
    (λ all alone. (
      alone.0,
      alone_before c.args.plan.now c.args.x c.args.w link (alone.0)
          (subst (λ (p : PlanView). IsAlone c.args.x p (alone.0)) c.cut.ensures.value (alone.1)),
      alone.2,
    ))
    c.routes_without_links-all.ensures.all

pub returns-clause-same : goal.returns-clause-same
returns-clause-same t c =
    c.link.ensures
    ∙ ap (linking true c.args.x c.args.w) c.routes_without_links-all.ensures.same
    ∙ c.cut.ensures.back (sym c.is_linked.ensures.value ∙ c.if-not-is_linked.false)
