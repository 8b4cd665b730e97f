use Rattle.std.proofs.Common.{◌<◌, length, arith}
use Rattle.filter_diff.proofs.Counted.{tried_halves}
use Rattle.filter_diff.proofs.Splits.{kept_left, split_left}
use Rattle.filter_diff.proofs.search.push_bits.Goals as goal

pub returns-clause-kept : goal.returns-clause-kept
returns-clause-kept c route = kept_left route _ _ _ _ _ c.in_ok-push.ensures.items c.in_ok-push-2.ensures.items

pub returns-clause-split : goal.returns-clause-split
returns-clause-split c done route of =
    let more : length c.args.class.now.known < c.args.class.now.len = omega (arith, c.len.ensures.bits, c.if-len-class.false) in
    split_left c.args.class.now _ _ route _ _ _ of c.in-Some.ensures.longer c.in-Some-with_bit.ensures.longer more c.in_ok-push.ensures.items
    c.in_ok-push-2.ensures.items

pub returns-clause-tried : goal.returns-clause-tried
returns-clause-tried c done =
    let more : length c.args.class.now.known < c.args.class.now.len = omega (arith, c.len.ensures.bits, c.if-len-class.false) in
    tried_halves c.args.class.now.size c.args.class.now _ _ _ _ _ c.in-Some.ensures.longer c.in-Some-with_bit.ensures.longer more
    c.in_ok-push.ensures.items c.in_ok-push-2.ensures.items
