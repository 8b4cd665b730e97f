use Rattle.std.proofs.Common.{◌∙◌, ap, subst, List}
use Rattle.std.proofs.lemmas.Result.{on_ok_weaker}
use Rattle.operator_cmds.specs.declared.event.Direction.TheVariants as direction
use Rattle.router_options.specs.PlanView.{PlanView}
use Rattle.router_options.specs.declared.parts.FilterUse.{FilterUse}
use Rattle.router_daemon.specs.Uses.{SetsEach}
use Rattle.router_daemon.proofs.filtering.set_filters.Goals as goal

pub returns-clause-set : goal.returns-clause-set
returns-clause-set g c =
    let r = c.args.router.now in
    let names = c.args.filters.now.entries in
    let mid = c.set_each.new.pass in
    let imports : SetsEach r direction.Import names c.args.plan.now.imports c.args.pass.now mid =
    subst (λ (l : List FilterUse). SetsEach r direction.Import names l c.args.pass.now mid)
    (c.as_slice.ensures.value ∙ ap (λ (p : PlanView). p.imports) c.plan.view_is) c.in_ok-set_each.ensures.set in
    on_ok_weaker c.set_each-2.result (λ exports. (
      mid,
      imports,
      subst (λ (l : List FilterUse). SetsEach r direction.Export names l mid c.set_each-2.new.pass)
          (c.as_slice-2.ensures.value ∙ ap (λ (p : PlanView). p.exports) c.plan.view_is) exports,
    )) c.set_each-2.ensures.set
