use Rattle.std.proofs.Common.{arith}
use Rattle.filter_checks.proofs.MoreTests.{more_run}
use Rattle.filter_checks.proofs.testing.run_all.Goals as goal

pub loop-test-preserved : goal.loop-test-preserved
loop-test-preserved c = record {
  run = more_run c.args.code.now c.args.size c.args.limit c.args.tests.now c.loop-test.test-index c.test-item.result c.loop-test.all.items c.push.new.self.items
      c.in_ok-ran.ran c.loop-test-test.true c.test-item.is c.in_ok-push.ensures.items c.loop-test.invariant.run c.in_ok-ran.ensures;
  count = omega (arith, c.in_ok-push.ensures.len, c.loop-test.invariant.count);
}
