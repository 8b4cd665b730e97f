-- One node more.
use Rattle.std.proofs.Common.{◌∙◌, ℕ, [], ◌∷◌, refl, subst₂}
use Rattle.domain_routes.specs.PlanView.{PlanView}
use Rattle.domain_cmds.specs.Comparing.{AddsHarms}
use Rattle.domain_cmds.specs.declared.failure.Failing.TheVariants.{Node}
use Rattle.domain_cmds.proofs.Harming.{adds_more, adds_nothing}
use Rattle.domain_cmds.proofs.comparing.push_node_harms.Goals as goal

pub loop-x-init : goal.loop-x-init
loop-x-init c = record {
  added = adds_nothing c.args.old.now c.args.new.now c.args.before.now c.args.after.now c.args.found.now.items;
  old = refl;
  new = refl;
}

pub loop-x-preserved : goal.loop-x-preserved
loop-x-preserved c = record {
  added = adds_more c.args.old.now c.args.new.now c.args.before.now c.args.after.now c.loop-x.x (λ (x : ℕ). Node x ∷ []) c.args.found.now.items
      c.loop-x.found.items c.push_node_harm.new.found.items c.loop-x.invariant.added
      (subst₂
      (λ (p q : PlanView). AddsHarms p q c.args.before.now c.args.after.now (Node c.loop-x.x ∷ []) c.loop-x.found.items
      c.push_node_harm.new.found.items)
      c.loop-x.invariant.old c.loop-x.invariant.new c.in_ok-push_node_harm.ensures.ok);
  old = c.push_node_harm.ensures.same.0 ∙ c.loop-x.invariant.old;
  new = c.push_node_harm.ensures.same.1 ∙ c.loop-x.invariant.new;
}
