use Rattle.filter_diff.proofs.Expected.{ends_one}
use Rattle.filter_diff.proofs.checking.ends_on_route.Goals as goal

pub returns-in-Some-clause-said : goal.returns-in-Some-clause-said
returns-in-Some-clause-said c =
    ends_one c.args.code.now c.args.class.now c.args.metric c.args.ending _ _ _ c.outcomes.result c.requires.known c.requires.whole
    c.in-Some.ensures.1 c.run_checked.ensures.outcome c.outcome_of.ensures c.outcomes.ensures.compared
