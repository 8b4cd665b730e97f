use Rattle.std.proofs.Common.{arith}
use Rattle.bird_import.specs.Cases.{IsDistinctAt}
use Rattle.bird_import.proofs.Below.{one_more}
use Rattle.bird_import.proofs.Ranges.{all_distinct}
use Rattle.bird_import.proofs.case_rules.are_distinct.Goals as goal

pub loop-at-preserved : goal.loop-at-preserved
loop-at-preserved c =
    one_more (IsDistinctAt c.args.label.now c.args.parts.now) c.loop-at.at c.loop-at.invariant (c.is_distinct_at.ensures c.if-not-is_distinct_at.false)

pub returns : goal.returns
returns c = λ _. all_distinct c.args.label.now c.args.parts.now c.loop-at.at (omega (arith, c.loop-at-test.false)) c.loop-at.invariant
