use Rattle.std.proofs.Common.{◌∙◌, ap, arith, ◌+◌, ℕ}
use Rattle.filter_diff.proofs.Counted.{tried_length, tried_pushed}
use Rattle.filter_diff.specs.Searches.{most_tried_of}
use Rattle.filter_diff.proofs.Dealt.{length_step}
use Rattle.filter_diff.proofs.Real.{real_more}
use Rattle.filter_diff.proofs.comparison.all_classes.Goals as goal

pub loop-step-preserved : goal.loop-step-preserved
loop-step-preserved c = record {
  all = λ route is_in. length_step _ route _ _ c.loop-step.step c.in_ok-push.ensures.items (c.loop-step.invariant.all route is_in)
      (c.all_of.ensures.all route is_in);
  tried = tried_length c.args.size c.loop-step.step (most_tried_of c.args.size c.loop-step.todo.items) _ (omega arith)
      (tried_pushed c.args.size _ _ _ c.in_ok-push.ensures.items
      ∙ ap (λ (n : ℕ). most_tried_of c.args.size c.loop-step.todo.items + n) c.all_of.ensures.tried)
      c.loop-step.invariant.tried;
  real = real_more c.args.size _ _ _ c.in_ok-push.ensures.items c.loop-step.invariant.real c.all_of.ensures.real;
}
