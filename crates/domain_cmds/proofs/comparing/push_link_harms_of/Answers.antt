-- One link more.
use Rattle.std.proofs.Common.{◌∙◌, refl, subst₂}
use Rattle.domain_routes.specs.PlanView.{PlanView}
use Rattle.domain_cmds.specs.Comparing.{AddsHarms, link_of_either}
use Rattle.domain_cmds.proofs.Harming.{adds_more, adds_nothing}
use Rattle.domain_cmds.proofs.comparing.push_link_harms_of.Goals as goal

pub loop-w-init : goal.loop-w-init
loop-w-init c = record {
  added = adds_nothing c.args.old.now c.args.new.now c.args.before.now c.args.after.now c.args.found.now.items;
  old = refl;
  new = refl;
}

pub loop-w-preserved : goal.loop-w-preserved
loop-w-preserved c = record {
  added = adds_more c.args.old.now c.args.new.now c.args.before.now c.args.after.now c.loop-w.w (link_of_either c.args.old.now c.args.new.now c.args.u)
      c.args.found.now.items c.loop-w.found.items c.push_link_harm.new.found.items c.loop-w.invariant.added
      (subst₂
      (λ (p q : PlanView). AddsHarms p q c.args.before.now c.args.after.now (link_of_either p q c.args.u c.loop-w.w) c.loop-w.found.items
      c.push_link_harm.new.found.items)
      c.loop-w.invariant.old c.loop-w.invariant.new c.in_ok-push_link_harm.ensures.ok);
  old = c.push_link_harm.ensures.same.0 ∙ c.loop-w.invariant.old;
  new = c.push_link_harm.ensures.same.1 ∙ c.loop-w.invariant.new;
}
