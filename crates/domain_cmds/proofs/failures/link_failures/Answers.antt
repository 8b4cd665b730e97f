-- One node more.
use Rattle.std.proofs.Common.{◌∙◌, [], subst}
use Rattle.domain_routes.specs.PlanView.{PlanView}
use Rattle.domain_cmds.specs.Failures.{AddsFailures, links_of}
use Rattle.domain_cmds.proofs.Failing.{adds_more}
use Rattle.domain_cmds.proofs.failures.link_failures.Goals as goal

pub loop-u-preserved : goal.loop-u-preserved
loop-u-preserved c = record {
  added = adds_more c.args.domain.now c.args.before.now c.loop-u.u (links_of c.args.domain.now) []
      c.loop-u.found.items c.push_links_of.new.found.items c.loop-u.invariant.added
      (subst (λ (p : PlanView). AddsFailures p c.args.before.now (links_of p c.loop-u.u) c.loop-u.found.items c.push_links_of.new.found.items)
      c.loop-u.invariant.same c.in_ok-push_links_of.ensures.ok);
  same = c.push_links_of.ensures.same ∙ c.loop-u.invariant.same;
}
