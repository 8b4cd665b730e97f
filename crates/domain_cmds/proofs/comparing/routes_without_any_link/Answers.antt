-- A link that is not there leaves the plan as it is.
use Rattle.std.proofs.Common.{◌≡◌, false, sym, ap, ◌∙◌}
use Rattle.std.proofs.lemmas.Result.{IfOk-weaker}
use Rattle.domain_routes.specs.PlanView.{PlanView, is_linked}
use Rattle.domain_cmds.proofs.Unlinking.{cut_nothing}
use Rattle.domain_cmds.proofs.comparing.routes_without_any_link.Goals as goal

pub returns-then-not-is_linked-clause-all : goal.returns-then-not-is_linked-clause-all
returns-then-not-is_linked-clause-all c =
    let p = c.args.domain.now in
    let apart : is_linked p c.args.u c.args.w ≡ false =
    ap (λ (x : PlanView). is_linked x c.args.u c.args.w) (sym c.plan.ensures) ∙ sym c.is_linked.ensures.value ∙ c.if-not-is_linked.true in
    let back : is_linked p c.args.w c.args.u ≡ false =
    ap (λ (x : PlanView). is_linked x c.args.w c.args.u) (sym c.plan.ensures) ∙ c.is_linked.ensures.both_ways
    ∙ ap (λ (x : PlanView). is_linked x c.args.u c.args.w) c.plan.ensures ∙ apart in
    IfOk-weaker c.all_routes.result _ _ (λ all are. (p, sym (cut_nothing p c.args.u c.args.w apart back), are)) c.all_routes.ensures.all
