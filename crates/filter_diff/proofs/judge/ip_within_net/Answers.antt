use Rattle.filter_diff.proofs.Tests.{ip_within_own, told}
use Rattle.filter_diff.proofs.judge.ip_within_net.Goals as goal

pub returns-in-Some : goal.returns-in-Some
returns-in-Some c =
    told _ c.pattern_of.ensures (ip_within_own c.args.class.now c.args.ip c.in-Some.whole c.in-Some.ensures.1)
