use Rattle.filter_diff.proofs.Counted.{tried_metrics}
use Rattle.filter_diff.proofs.search.split_by_metric.Goals as goal

pub returns-in_ok-push_metrics-in-None-clause-tried : goal.returns-in_ok-push_metrics-in-None-clause-tried
returns-in_ok-push_metrics-in-None-clause-tried c done =
    tried_metrics c.args.class.now.size c.args.class.now _ _ c.in-None.is c.in_ok-push_metrics-in-None.ensures.tried
