use Rattle.router_files.proofs.Repeats.{is_again, none_more}
use Rattle.router_files.proofs.again.find_again.Goals as goal

pub returns-in-Some : goal.returns-in-Some
returns-in-Some c =
    is_again c.args.statements.now c.loop-n.n _ c.index-statements-n.is c.loop-n-test.true c.loop-n.invariant c.in-Some.ensures

pub loop-n-preserved : goal.loop-n-preserved
loop-n-preserved c =
    none_more c.args.statements.now c.loop-n.n c.index-statements-n.result c.index-statements-n.is c.loop-n-test.true c.loop-n.invariant
    c.in_default.ensures
