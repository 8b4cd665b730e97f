-- One destination more.
use Rattle.std.proofs.Common.{◌≡◌, ◌+◌, sym, ap, ◌∙◌, arith}
use Rattle.domain_cmds.specs.Comparing.{is_taken_anew}
use Rattle.domain_cmds.specs.Failures.{one_if}
use Rattle.domain_cmds.proofs.Counting.{count_more}
use Rattle.domain_cmds.proofs.comparing.taken_anew_of.Goals as goal

pub loop-v-preserved : goal.loop-v-preserved
loop-v-preserved c =
    let test = is_taken_anew c.args.size c.args.what c.args.then_failed.now c.args.now.now c.args.now_failed.now c.args.u in
    let one : c.one_if-count.result ≡ one_if (test c.loop-v.v) = c.one_if-count.ensures.value ∙ ap one_if c.is_taken_anew.ensures in
    record {
      counted = (λ i. c.loop-v.invariant.counted i + one i) ∙ sym (count_more c.loop-v.v test);
      few = omega (arith, c.loop-v.invariant.few, c.one_if-count.ensures.small);
    }
