use Rattle.std.proofs.Common.{◌≡◌, ◌+◌, ◌-◌, ◌/◌, ◌∙◌, arith}
use Rattle.std.proofs.Math.Nat.{mul-div-le}
use Rattle.int_sets.proofs.Searching.{left_tells, still_left}
use Rattle.int_sets.proofs.search.search.Goals as goal

pub loop-size-preserved : goal.loop-size-preserved
loop-size-preserved c =
    still_left c.args.number c.loop-size.base c.loop-size.size (c.loop-size.size / 4) c.part_of.result c.args.ranges.now c.requires c.loop-size.invariant
    (mul-div-le c.loop-size.size 4) (omega (arith, c.loop-size-test.true)) c.part_of.ensures.limit c.part_of.ensures.begun c.part_of.ensures.later

pub returns : goal.returns
returns c =
    let base = c.loop-size.base in
    let size = c.loop-size.size in
    let count : base + size - base ≡ size = omega arith in
    c.scan.ensures ∙ rw count (left_tells c.args.number base size c.args.ranges.now c.requires c.loop-size.invariant)
