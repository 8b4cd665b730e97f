-- What the failure of the node does.
use Rattle.std.proofs.Common.{ap, ◌∙◌}
use Rattle.std.proofs.lemmas.Result.{on_ok_weaker}
use Rattle.domain_routes.specs.PlanView.{PlanView}
use Rattle.domain_cmds.specs.declared.failure.Failing.TheVariants.{Node}
use Rattle.domain_cmds.proofs.Harming.{adds_one, is_harm}
use Rattle.domain_cmds.proofs.comparing.push_node_harm.Goals as goal

pub returns-clause-ok : goal.returns-clause-ok
returns-clause-ok c =
    let p = c.args.old.now in
    let q = c.args.new.now in
    let before = c.args.before.now in
    let after = c.args.after.now in
    let x = c.args.x in
    let harm = is_harm p q before after (Node x) c.size.result c.harm_of-harm.result c.in_ok-before_failed.before_failed.value.items
    c.in_ok-after_failed.after_failed.value.items c.as_slice.result.now c.as_slice-2.result.now c.in_ok-before_failed.ensures.all
    c.in_ok-after_failed.ensures.all (c.as_slice.ensures.value ∙ ap (λ v. v.items) c.deref.ensures)
    (c.as_slice-2.ensures.value ∙ ap (λ v. v.items) c.deref-2.ensures)
    (c.size.ensures.value ∙ ap (λ (y : PlanView). y.size) c.in_ok-before_failed.ensures.same) c.harm_of-harm.ensures in
    on_ok_weaker c.push_harm.result
    (λ more. adds_one p q before after (Node x) c.harm_of-harm.result c.args.found.now.items c.push_harm.new.found.items harm more) c.push_harm.ensures
