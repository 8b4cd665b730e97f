use Rattle.std.proofs.Common.{rules, inr}
use Rattle.std.proofs.lemmas.Result.{err_from_is_err_and}
use Rattle.code_file.specs.Reading.{a_range, times, read}
use Rattle.code_file.proofs.Steps.{goes_on, stops, ends}
use Rattle.code_file.proofs.reading.ranges.Goals as goal

pub returns-in_err-range-clause-value : goal.returns-in_err-range-clause-value
returns-in_err-range-clause-value c =
    let p = err_from_is_err_and c.from_residual-in_err-range.result c.from_residual-in_err-range.ensures.1 in
    let l = c.loop in
    let total = read (times c.args.count a_range) c.args.reader.now in
    rw (p.1, p.2) (inr (stops a_range l.ranges.items c.args.count l.counter l.reader c.in_err-range.field-0.0 total
    c.loop-test.true c.in_err-range.ensures l.invariant.told))

pub loop-preserved : goal.loop-preserved
loop-preserved c =
    let l = c.loop in
    let total = read (times c.args.count a_range) c.args.reader.now in
    record {
      told = rw c.in_ok-push.ensures.items (goes_on a_range l.ranges.items c.args.count l.counter l.reader
          c.range.new.self c.in_ok-range.range total c.loop-test.true c.in_ok-range.ensures l.invariant.told);
      count = search rules;
    }

pub returns-clause-value : goal.returns-clause-value
returns-clause-value c =
    let l = c.loop in
    let total = read (times c.args.count a_range) c.args.reader.now in
    ends a_range l.ranges.items c.args.count l.counter l.reader total c.loop-test.false l.invariant.told
