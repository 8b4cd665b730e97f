use Rattle.filter_diff.proofs.Tests.{own_equals_own, own_equals_prefix, told}
use Rattle.filter_diff.proofs.judge.equal_net.Goals as goal

pub returns-in-Net : goal.returns-in-Net
returns-in-Net c =
    told _ c.pattern_of.ensures
    (own_equals_prefix c.args.class.now _ _ _ c.args.b c.in-Net.is c.len.ensures.bits c.len-in-Net.ensures.bits)

pub returns-in-OwnNet : goal.returns-in-OwnNet
returns-in-OwnNet c route of = own_equals_own route c.args.b c.in-OwnNet.is
