use Rattle.filter_diff.proofs.Expected.{where_all_match, where_none_matches}
use Rattle.filter_diff.proofs.checking.meets.Goals as goal

pub returns-in-Some-false-clause-said : goal.returns-in-Some-false-clause-said
returns-in-Some-false-clause-said c =
    where_none_matches c.args.code.now c.args.class.now c.args.expected.now c.matched.result c.in-Some-false.field-0 c.matched.ensures.matched
    c.in-Some-false.is c.in-Some-false.field-0-test

pub ends_by_metric-requires-clause-matched : goal.ends_by_metric-requires-clause-matched
ends_by_metric-requires-clause-matched c =
    where_all_match c.args.class.now c.args.expected.now c.matched.result c.in-Some-true.field-0 c.matched.ensures.matched
    c.in-Some-true.is c.in-Some-true.field-0-test
