use Rattle.std.proofs.Common.{◌≤◌, ◌+◌, length, arith}
use Rattle.history_file.proofs.Chained.{at_more, at_wrong, line_long, more_left}
use Rattle.history_file.proofs.chain.Chain.replay.Goals as goal

pub overflow_add-lines-in-Some : goal.overflow_add-lines-in-Some
overflow_add-lines-in-Some c =
    let left = more_left c.args.bytes.now c.args.self.now c.loop-line.self c.loop-line.count c.loop-line.rest.now c.in-Some.line.now
    c.in-Some.later.now c.loop-line.invariant c.in-Some.ensures in
    omega (arith, left, c.requires.numbers)

pub enter-requires : goal.enter-requires
enter-requires c =
    let left = more_left c.args.bytes.now c.args.self.now c.loop-line.self c.loop-line.count c.loop-line.rest.now c.in-Some.line.now
    c.in-Some.later.now c.loop-line.invariant c.in-Some.ensures in
    omega (arith, left, c.loop-line.invariant.next_is, c.loop-line.invariant.count_is, c.requires.positions)

pub loop-line-smaller : goal.loop-line-smaller
loop-line-smaller c = omega (arith, line_long c.loop-line.rest.now c.in-Some.line.now c.in-Some.later.now c.in-Some.ensures)

pub loop-line-preserved : goal.loop-line-preserved
loop-line-preserved c =
    at_more c.args.bytes.now c.args.self.now c.loop-line.self c.enter.new.self c.loop-line.count c.loop-line.rest.now c.in-Some.line.now
    c.in-Some.later.now c.loop-line.invariant c.in-Some.ensures c.in-Ok.ensures.ok

pub returns-in-Err-clause-err : goal.returns-in-Err-clause-err
returns-in-Err-clause-err c =
    at_wrong c.args.bytes.now c.args.self.now c.loop-line.self c.loop-line.count c.args.lines c.loop-line.rest.now c.in-Some.line.now
    c.in-Some.later.now c.in-Err.fault c.loop-line.invariant c.in-Some.ensures c.in-Err.ensures.err
