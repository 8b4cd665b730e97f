use Rattle.filter_diff.proofs.Joined.{joins_lengths}
use Rattle.filter_diff.proofs.joining.join_lengths.Goals as goal

pub returns : goal.returns
returns c =
    let metrics = c.same_metrics.ensures c.if-not-same_metrics.false in
    let lengths = c.lengths_follow.ensures c.if-not-lengths_follow.false in
    joins_lengths c.args.a.now c.args.b.now c.in_ok-finding.finding c.in_ok-finding.ensures
    (c.same_prefix.ensures c.if-not-same_prefix.false) metrics.0 metrics.1 lengths.0 lengths.1 lengths.2
