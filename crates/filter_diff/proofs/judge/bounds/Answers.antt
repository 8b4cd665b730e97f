use Rattle.std.proofs.Common.{arith}
use Rattle.filter_diff.proofs.Tests.{own_between}
use Rattle.filter_diff.proofs.judge.bounds.Goals as goal

pub returns-else-class-gt-ADDRESS_LENGTH : goal.returns-else-class-gt-ADDRESS_LENGTH
returns-else-class-gt-ADDRESS_LENGTH c =
    own_between c.args.class.now c.args.symbol c.in-OwnIp.kept c.len-bits.result c.ends_of.result.0 c.ends_of.result.1 c.in-OwnIp.is
    c.len-bits.ensures.bits c.ends_of.ensures.first c.ends_of.ensures.last (omega (arith, c.if-kept-bits.false))
    (omega (arith, c.if-class-kept.false))
