use Rattle.std.proofs.Common.{arith}
use Rattle.filter_diff.proofs.Joined.{joins_halves}
use Rattle.filter_diff.proofs.joining.join_halves.Goals as goal

pub returns-in-Some : goal.returns-in-Some
returns-in-Some c =
    let lengths = c.same_lengths.ensures c.if-not-same_lengths.false in
    let metrics = c.same_metrics.ensures c.if-not-same_metrics.false in
    joins_halves c.args.a.now c.args.b.now c.in-Some.prefix c.in_ok-finding.finding c.in_ok-finding.ensures c.in-Some.ensures.0
    c.in-Some.ensures.1 lengths.0 lengths.1 metrics.0 metrics.1 (omega (arith, c.len.ensures.bits))
