use Rattle.filter_diff.proofs.Expected.{met_of_ends, where_all_metrics_are}
use Rattle.filter_diff.proofs.checking.ends_by_metric.Goals as goal

pub returns-in-Some-true-clause-said : goal.returns-in-Some-true-clause-said
returns-in-Some-true-clause-said c =
    met_of_ends c.args.code.now c.args.class.now c.args.expected.now c.ends.result c.requires.matched
    (where_all_metrics_are c.args.class.now c.args.expected.now c.has_metrics.result c.in-Some-true.field-0 c.has_metrics.ensures.has
    c.in-Some-true.is c.in-Some-true.field-0-test)
    c.ends.ensures.said
