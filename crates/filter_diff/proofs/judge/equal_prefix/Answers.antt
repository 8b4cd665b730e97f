use Rattle.filter_diff.proofs.Tests.{prefix_equals_own, told}
use Rattle.filter_diff.proofs.judge.equal_prefix.Goals as goal

pub returns-in-OwnNet : goal.returns-in-OwnNet
returns-in-OwnNet c =
    told _ c.pattern_of.ensures
    (prefix_equals_own c.args.class.now _ _ _ c.args.b c.in-OwnNet.is c.len.ensures.bits c.len-in-OwnNet.ensures.bits)
