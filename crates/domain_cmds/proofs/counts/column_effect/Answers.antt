-- One node more.
use Rattle.std.proofs.Common.{◌≡◌, ℕ, ◌+◌, min, sym, ap, ◌∙◌, arith}
use Rattle.domain_routes.proofs.Still.{least_more}
use Rattle.domain_cmds.specs.ByColumn.{route_effect}
use Rattle.domain_cmds.specs.Failures.{is_changed, is_lost, one_if, told_lesser}
use Rattle.domain_cmds.proofs.Counting.{count_more}
use Rattle.domain_cmds.proofs.counts.column_effect.Goals as goal

pub loop-u-preserved : goal.loop-u-preserved
loop-u-preserved c =
    let size = c.args.size in
    let what = c.args.what in
    let before = c.args.before.now in
    let after = c.args.after.now in
    let v = c.args.v in
    let u = c.loop-u.u in
    let is : c.route_effect-effect.result ≡ route_effect size what before after u v = c.route_effect-effect.ensures in
    let changed : c.one_if.result ≡ one_if (is_changed size what before after u v) =
    c.one_if.ensures.value ∙ (λ i. one_if (is i).changed) in
    let lost : c.one_if-in-loop-u.result ≡ one_if (is_lost size what before after u v) = c.one_if-in-loop-u.ensures.value ∙ (λ i. one_if (is i).lost) in
    record {
      changed = (λ i. c.loop-u.invariant.changed i + changed i) ∙ sym (count_more u (λ (x : ℕ). is_changed size what before after x v));
      lost = (λ i. c.loop-u.invariant.lost i + lost i) ∙ sym (count_more u (λ (x : ℕ). is_lost size what before after x v));
      still = c.lesser-still.ensures ∙ (λ i. min (c.loop-u.invariant.still i) (is i).still) ∙ sym (least_more size u (told_lesser size what before after v));
      few = (
        omega (arith, c.loop-u.invariant.few.0, c.one_if.ensures.small),
        omega (arith, c.loop-u.invariant.few.1, c.one_if-in-loop-u.ensures.small),
      );
    }
