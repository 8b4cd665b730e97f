use Rattle.filter_diff.proofs.Tests.{own_within_prefix, told}
use Rattle.filter_diff.proofs.judge.within_prefix.Goals as goal

pub returns-in-OwnNet : goal.returns-in-OwnNet
returns-in-OwnNet c =
    told _ c.pattern_of.ensures (own_within_prefix c.args.class.now c.args.a c.args.outer _ c.in-OwnNet.is c.len.ensures.bits)
