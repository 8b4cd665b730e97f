-- One column more.
use Rattle.std.proofs.Common.{arith}
use Rattle.domain_cmds.proofs.Growing.{one_column_more}
use Rattle.domain_cmds.proofs.routes.columns_after_cuts.Goals as goal

pub loop-v-preserved : goal.loop-v-preserved
loop-v-preserved c = record {
  count = omega (arith, c.in_ok-push.ensures.len, c.loop-v.invariant.count);
  routes = one_column_more c.args.plan.now c.loop-v.all.items c.push.new.self.items c.in_ok-column_after_cuts.field-0 c.loop-v.v c.loop-v.invariant.count
      c.in_ok-push.ensures.items c.loop-v.invariant.routes c.in_ok-column_after_cuts.ensures;
}
