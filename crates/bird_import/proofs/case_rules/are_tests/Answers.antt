use Rattle.std.proofs.Common.{suc}
use Rattle.bird_import.proofs.Tests.{last_test, more_tests}
use Rattle.bird_import.proofs.case_rules.are_tests.Goals as goal

pub returns-then-is_one_test : goal.returns-then-is_one_test
returns-then-is_one_test c _ =
    c.loop.invariant 0 (last_test c.args.subject.now c.loop.labels.now c.loop.tests.now (c.is_one_test.ensures c.if-is_one_test.true))

pub loop-preserved : goal.loop-preserved
loop-preserved c n more =
    c.loop.invariant (suc n) (more_tests c.args.subject.now c.loop.labels.now c.loop.tests.now c.in-Some.others.now c.in-Some.left.now n
    c.in-Some.ensures more)
