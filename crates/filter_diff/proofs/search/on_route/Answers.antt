use Rattle.filter_diff.proofs.Splits.{says_one}
use Rattle.filter_diff.proofs.search.on_route.Goals as goal

pub returns-in-Some-clause-said : goal.returns-in-Some-clause-said
returns-in-Some-clause-said c =
    says_one c.args.old.now c.args.new.now c.args.class.now c.args.metric _ _ _ c.outcomes.result c.requires.known c.requires.whole
    c.in-Some.ensures.1 c.run_checked.ensures.outcome c.run_checked-in-Some.ensures.outcome c.outcomes.ensures.compared
