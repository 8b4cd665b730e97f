use Rattle.std.proofs.Common.{arith}
use Rattle.filter_diff.proofs.Tests.{own_ip_within_own, own_within_own, prefix_within_own, told}
use Rattle.filter_diff.proofs.judge.within_net.Goals as goal

pub returns-in-Net : goal.returns-in-Net
returns-in-Net c =
    told _ c.pattern_of.ensures (prefix_within_own c.args.class.now c.args.a _ _ c.in-Net.is c.len.ensures.bits)

pub returns-in-OwnNet : goal.returns-in-OwnNet
returns-in-OwnNet c route of = own_within_own route c.args.a c.in-OwnNet.is

pub returns-in-OwnIp : goal.returns-in-OwnIp
returns-in-OwnIp c = own_ip_within_own c.args.class.now c.args.a c.in-OwnIp.kept c.in-OwnIp.is (omega arith)
