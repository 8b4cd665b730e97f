-- One link more.
use Rattle.std.proofs.Common.{◌∙◌, refl, subst}
use Rattle.domain_routes.specs.PlanView.{PlanView}
use Rattle.domain_cmds.specs.Failures.{AddsFailures, link_at}
use Rattle.domain_cmds.proofs.Failing.{adds_more, adds_nothing}
use Rattle.domain_cmds.proofs.failures.push_links_of.Goals as goal

pub loop-w-init : goal.loop-w-init
loop-w-init c = record { added = adds_nothing c.args.domain.now c.args.before.now c.args.found.now.items; same = refl }

pub loop-w-preserved : goal.loop-w-preserved
loop-w-preserved c = record {
  added = adds_more c.args.domain.now c.args.before.now c.loop-w.w (link_at c.args.domain.now c.args.u) c.args.found.now.items
      c.loop-w.found.items c.push_link.new.found.items c.loop-w.invariant.added
      (subst (λ (p : PlanView). AddsFailures p c.args.before.now (link_at p c.args.u c.loop-w.w) c.loop-w.found.items c.push_link.new.found.items)
      c.loop-w.invariant.same c.in_ok-push_link.ensures.ok);
  same = c.push_link.ensures.same ∙ c.loop-w.invariant.same;
}
