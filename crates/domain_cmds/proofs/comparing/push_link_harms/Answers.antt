-- One node more.
use Rattle.std.proofs.Common.{◌∙◌, refl, subst₂}
use Rattle.domain_routes.specs.PlanView.{PlanView}
use Rattle.domain_cmds.specs.Comparing.{AddsHarms, links_of_either}
use Rattle.domain_cmds.proofs.Harming.{adds_more, adds_nothing}
use Rattle.domain_cmds.proofs.comparing.push_link_harms.Goals as goal

pub loop-u-init : goal.loop-u-init
loop-u-init c = record {
  added = adds_nothing c.args.old.now c.args.new.now c.args.before.now c.args.after.now c.args.found.now.items;
  old = refl;
  new = refl;
}

pub loop-u-preserved : goal.loop-u-preserved
loop-u-preserved c = record {
  added = adds_more c.args.old.now c.args.new.now c.args.before.now c.args.after.now c.loop-u.u (links_of_either c.args.old.now c.args.new.now)
      c.args.found.now.items c.loop-u.found.items c.push_link_harms_of.new.found.items c.loop-u.invariant.added
      (subst₂
      (λ (p q : PlanView). AddsHarms p q c.args.before.now c.args.after.now (links_of_either p q c.loop-u.u) c.loop-u.found.items
      c.push_link_harms_of.new.found.items)
      c.loop-u.invariant.old c.loop-u.invariant.new c.in_ok-push_link_harms_of.ensures.ok);
  old = c.push_link_harms_of.ensures.same.0 ∙ c.loop-u.invariant.old;
  new = c.push_link_harms_of.ensures.same.1 ∙ c.loop-u.invariant.new;
}
