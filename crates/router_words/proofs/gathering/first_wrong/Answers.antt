use Rattle.router_words.proofs.FirstWrong.{is_first_wrong, none_more_wrong}
use Rattle.router_words.proofs.gathering.first_wrong.Goals as goal

pub returns-in-Some : goal.returns-in-Some
returns-in-Some c =
    is_first_wrong c.args.words.now c.args.statements.now c.loop-statement.statement-index _ c.in-Some.why c.statement-item.is
    c.loop-statement-test.true c.loop-statement.invariant c.in-Some.ensures

pub loop-statement-preserved : goal.loop-statement-preserved
loop-statement-preserved c =
    none_more_wrong c.args.words.now c.args.statements.now c.loop-statement.statement-index c.statement-item.result c.statement-item.is
    c.loop-statement-test.true c.loop-statement.invariant c.in_default.ensures
