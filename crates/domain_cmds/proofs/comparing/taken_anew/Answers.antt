-- One node more.
use Rattle.std.proofs.Common.{◌+◌, sym, ◌∙◌, arith}
use Rattle.domain_cmds.specs.Comparing.{taken_anew_of}
use Rattle.domain_cmds.proofs.Counting.{sum_more}
use Rattle.domain_cmds.proofs.comparing.taken_anew.Goals as goal

pub loop-u-preserved : goal.loop-u-preserved
loop-u-preserved c = record {
  summed = (λ i. c.loop-u.invariant.summed i + c.taken_anew_of-sum.ensures.value i)
      ∙ sym (sum_more c.loop-u.u (taken_anew_of c.args.size c.args.what c.args.then_failed.now c.args.now.now c.args.now_failed.now));
  few = omega (arith, c.loop-u.invariant.few, c.taken_anew_of-sum.ensures.few);
}
