-- One destination more.
use Rattle.std.proofs.Common.{◌≡◌, ℕ, ◌+◌, min, nat_lt, sym, ap, ◌∙◌, arith}
use Rattle.domain_routes.proofs.Still.{least_more}
use Rattle.domain_routes.specs.Still.{least_below}
use Rattle.domain_cmds.specs.ByColumn.{changed_to, column_effect, lost_to}
use Rattle.domain_cmds.specs.Failures.{count_below, is_moved, one_if, still_to, sum_below}
use Rattle.domain_cmds.proofs.ByColumn.{all_changed, all_lost, moved_at}
use Rattle.domain_cmds.proofs.Counting.{count_more, sum_more}
use Rattle.domain_cmds.proofs.failures.failure_of.Goals as goal

pub loop-v-preserved : goal.loop-v-preserved
loop-v-preserved c =
    let size = c.args.size in
    let what = c.args.what in
    let before = c.args.before.now in
    let after = c.args.after.now in
    let v = c.loop-v.v in
    let is : c.column_effect-effect.result ≡ column_effect size what before after v = c.column_effect-effect.ensures.value in
    let one : c.one_if-moved.result ≡ one_if (is_moved size what before after v) =
    c.one_if-moved.ensures.value ∙ (λ i. one_if (nat_lt (is i).still size)) ∙ ap one_if (moved_at size what before after v) in
    let few = c.column_effect-effect.ensures.few in
    let all = c.loop-v.invariant.few in
    record {
      changed = (λ i. c.loop-v.invariant.changed i + (is i).changed) ∙ sym (sum_more v (changed_to size what before after));
      lost = (λ i. c.loop-v.invariant.lost i + (is i).lost) ∙ sym (sum_more v (lost_to size what before after));
      moved = (λ i. c.loop-v.invariant.moved i + one i) ∙ sym (count_more v (is_moved size what before after));
      still = c.lesser-still.ensures ∙ (λ i. min (c.loop-v.invariant.still i) (is i).still) ∙ sym (least_more size v (still_to size what before after));
      few = (omega (arith, all.0, few.0), omega (arith, all.1, few.1), omega (arith, all.2, c.one_if-moved.ensures.small));
    }

pub returns : goal.returns
returns c =
    let size = c.args.size in
    let what = c.args.what in
    let before = c.args.before.now in
    let after = c.args.after.now in
    let end : c.loop-v.v ≡ size = omega (arith, c.loop-v.auto.v-end, c.loop-v-test.false) in
    let changed = c.loop-v.invariant.changed ∙ ap (λ (n : ℕ). sum_below n (changed_to size what before after)) end
    ∙ all_changed size what before after in
    let lost = c.loop-v.invariant.lost ∙ ap (λ (n : ℕ). sum_below n (lost_to size what before after)) end ∙ all_lost size what before after in
    let moved = c.loop-v.invariant.moved ∙ ap (λ (n : ℕ). count_below n (is_moved size what before after)) end in
    let still = c.loop-v.invariant.still ∙ ap (λ (n : ℕ). least_below size n (still_to size what before after)) end in
    λ i. record {
      what = what;
      changed = changed i;
      lost = lost i;
      moved = moved i;
      rounds = c.phases_to_rest.ensures i;
      still = still i;
    }
