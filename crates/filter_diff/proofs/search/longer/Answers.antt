use Rattle.std.proofs.Common.{arith}
use Rattle.filter_diff.proofs.Bits.{fits_one, longer_one, longer_zero}
use Rattle.filter_diff.proofs.search.longer.Goals as goal

pub overflow_add-first : goal.overflow_add-first
overflow_add-first c =
    omega
    (arith, fits_one c.args.known.now _ _ c.address-first.ensures c.len-count.ensures.bits (omega (arith, c.if-count-ge-ADDRESS_LENGTH.false)))

pub returns-then-bit-clause-longer : goal.returns-then-bit-clause-longer
returns-then-bit-clause-longer c =
    longer_one _ _ c.args.known.now _ _ c.args.bit c.new.ensures c.address-first.ensures c.len-count.ensures.bits
    (omega (arith, c.if-count-ge-ADDRESS_LENGTH.false)) c.if-bit.true

pub returns-else-bit-clause-longer : goal.returns-else-bit-clause-longer
returns-else-bit-clause-longer c =
    longer_zero _ _ c.args.known.now _ _ c.args.bit c.new-else-bit.ensures c.address-first.ensures c.len-count.ensures.bits
    (omega (arith, c.if-count-ge-ADDRESS_LENGTH.false)) c.if-bit.false
