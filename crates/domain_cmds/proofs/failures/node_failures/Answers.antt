-- One node more.
use Rattle.std.proofs.Common.{◌∙◌, ℕ, [], ◌∷◌, subst}
use Rattle.domain_routes.specs.PlanView.{PlanView}
use Rattle.domain_cmds.specs.Failures.{IsFailure}
use Rattle.domain_cmds.specs.declared.failure.Failing.TheVariants.{Node}
use Rattle.domain_cmds.proofs.Failing.{adds_more, adds_one}
use Rattle.domain_cmds.proofs.failures.node_failures.Goals as goal

pub loop-x-preserved : goal.loop-x-preserved
loop-x-preserved c =
    let plan = c.args.domain.now in
    let before = c.args.before.now in
    let x = c.loop-x.x in
    record {
      added = adds_more plan before x (λ (n : ℕ). Node n ∷ []) [] c.loop-x.found.items c.push.new.self.items c.loop-x.invariant.added
          (adds_one plan before (Node x) c.in_ok-failure.failure c.loop-x.found.items c.push.new.self.items
          (subst (λ (p : PlanView). IsFailure p before (Node x) c.in_ok-failure.failure) c.loop-x.invariant.same c.in_ok-failure.ensures.ok)
          c.in_ok-push.ensures.items);
      same = c.node_failure.ensures.same ∙ c.loop-x.invariant.same;
    }
