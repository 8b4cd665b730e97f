use Rattle.std.proofs.Common.{◌≡◌, ℕ, ◌+◌, ◌-◌, ◌*◌, ◌<◌, length, ◌∙◌, ap, arith}
use Rattle.filter_diff.specs.Searches.{most_tried_of, split_by_bits}
use Rattle.filter_diff.proofs.Counted.{tried_metric}
use Rattle.filter_diff.proofs.Dealt.{left_kept, metric_step}
use Rattle.filter_diff.proofs.Real.{metric_real}
use Rattle.filter_diff.proofs.search.push_metrics.Goals as goal

pub loop-step-preserved : goal.loop-step-preserved
loop-step-preserved c = record {
  kept = λ route h. left_kept route _ _ _ c.in_ok-push.ensures.items (c.loop-step.invariant.kept route h);
  real = λ all. metric_real c.args.class.now c.loop-step.step _ _ c.requires.real c.in_ok-push.ensures.items (c.loop-step.invariant.real all);
  split = λ route is_in of. metric_step c.args.class.now route _ _ c.loop-step.step c.in_ok-push.ensures.items
      (c.loop-step.invariant.split route is_in of) is_in of;
  few = omega (arith, c.in_ok-push.ensures.len);
  tried = tried_metric c.args.class.now.size c.args.class.now _ _ _ c.loop-step.step _ c.in_ok-push.ensures.items c.loop-step.invariant.tried;
}

pub returns-in_ok-push-clause-kept : goal.returns-in_ok-push-clause-kept
returns-in_ok-push-clause-kept c route h = left_kept route _ _ _ c.in_ok-push.ensures.items (c.loop-step.invariant.kept route h)

pub returns-in_ok-push-clause-real : goal.returns-in_ok-push-clause-real
returns-in_ok-push-clause-real c all = metric_real c.args.class.now c.loop-step.step _ _ c.requires.real c.in_ok-push.ensures.items (c.loop-step.invariant.real all)

pub returns-in_ok-push-clause-split : goal.returns-in_ok-push-clause-split
returns-in_ok-push-clause-split c route is_in of =
    let last : c.args.class.now.size < route.metric + (c.loop-step.step + 1) = omega arith in
    metric_step c.args.class.now route _ _ c.loop-step.step c.in_ok-push.ensures.items
    (c.loop-step.invariant.split route is_in of) is_in of last

pub returns-in_ok-push-clause-tried : goal.returns-in_ok-push-clause-tried
returns-in_ok-push-clause-tried c =
    let last : c.loop-step.step + 1 ≡ c.args.class.now.size + 1 = omega arith in
    tried_metric c.args.class.now.size c.args.class.now _ _ _ c.loop-step.step _ c.in_ok-push.ensures.items c.loop-step.invariant.tried
    ∙ ap (λ (n : ℕ). most_tried_of c.args.class.now.size c.args.todo.now.items
    + n * split_by_bits (c.args.class.now.len - length c.args.class.now.known)) last
