-- What the failure of the link does.
use Rattle.std.proofs.Common.{◌≡◌, true, ◌&&◌, ◌||◌, nat_lt, sym, ap, ap₂, ◌∙◌}
use Rattle.std.proofs.lemmas.Result.{on_ok_weaker}
use Rattle.domain_routes.specs.PlanView.{PlanView, is_linked}
use Rattle.domain_cmds.specs.declared.failure.Failing.TheVariants.{Link}
use Rattle.domain_cmds.proofs.Harming.{adds_link, is_harm}
use Rattle.domain_cmds.proofs.comparing.push_link_harm.Goals as goal

pub returns-clause-ok : goal.returns-clause-ok
returns-clause-ok c =
    let p = c.args.old.now in
    let q = c.args.new.now in
    let before = c.args.before.now in
    let after = c.args.after.now in
    let u = c.args.u in
    let w = c.args.w in
    let test : (nat_lt u w && (is_linked p u w || is_linked q u w)) ≡ true =
    ap₂ (λ (x y : PlanView). nat_lt u w && (is_linked x u w || is_linked y u w)) (sym c.plan.ensures) (sym c.plan-2.ensures)
    ∙ sym c.is_link_of_either.ensures.value ∙ c.if-not-is_link_of_either.false in
    let harm = is_harm p q before after (Link u w) c.size.result c.harm_of-harm.result c.in_ok-before_failed.before_failed.value.items
    c.in_ok-after_failed.after_failed.value.items c.as_slice.result.now c.as_slice-2.result.now c.in_ok-before_failed.ensures.all
    c.in_ok-after_failed.ensures.all (c.as_slice.ensures.value ∙ ap (λ v. v.items) c.deref.ensures)
    (c.as_slice-2.ensures.value ∙ ap (λ v. v.items) c.deref-2.ensures)
    (c.size.ensures.value ∙ ap (λ (x : PlanView). x.size) c.in_ok-before_failed.ensures.same) c.harm_of-harm.ensures in
    on_ok_weaker c.push_harm.result
    (λ more. adds_link p q before after u w c.harm_of-harm.result c.args.found.now.items c.push_harm.new.found.items test harm more)
    c.push_harm.ensures
