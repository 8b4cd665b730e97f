use Rattle.filter_diff.proofs.Joined.{joins_metrics}
use Rattle.filter_diff.proofs.joining.join_metrics.Goals as goal

pub returns : goal.returns
returns c =
    let lengths = c.same_lengths.ensures c.if-not-same_lengths.false in
    let metrics = c.metrics_follow.ensures c.if-not-metrics_follow.false in
    joins_metrics c.args.a.now c.args.b.now c.in_ok-finding.finding c.in_ok-finding.ensures
    (c.same_prefix.ensures c.if-not-same_prefix.false) lengths.0 lengths.1 metrics.0 metrics.1 metrics.2
