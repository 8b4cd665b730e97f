use Rattle.std.proofs.Common.{rules, inr}
use Rattle.std.proofs.lemmas.Result.{err_from_is_err_and}
use Rattle.code_file.specs.Reading.{a_pattern, times, read}
use Rattle.code_file.proofs.Steps.{goes_on, stops, ends}
use Rattle.code_file.proofs.reading.patterns.Goals as goal

pub returns-in_err-pattern-clause-value : goal.returns-in_err-pattern-clause-value
returns-in_err-pattern-clause-value c =
    let p = err_from_is_err_and c.from_residual-in_err-pattern.result c.from_residual-in_err-pattern.ensures.1 in
    let l = c.loop in
    let total = read (times c.args.count a_pattern) c.args.reader.now in
    rw (p.1, p.2) (inr (stops a_pattern l.patterns.items c.args.count l.counter l.reader c.in_err-pattern.field-0.0 total
    c.loop-test.true c.in_err-pattern.ensures l.invariant.told))

pub loop-preserved : goal.loop-preserved
loop-preserved c =
    let l = c.loop in
    let total = read (times c.args.count a_pattern) c.args.reader.now in
    record {
      told = rw c.in_ok-push.ensures.items (goes_on a_pattern l.patterns.items c.args.count l.counter l.reader
          c.pattern.new.self c.in_ok-pattern.pattern total c.loop-test.true c.in_ok-pattern.ensures l.invariant.told);
      count = search rules;
    }

pub returns-clause-value : goal.returns-clause-value
returns-clause-value c =
    let l = c.loop in
    let total = read (times c.args.count a_pattern) c.args.reader.now in
    ends a_pattern l.patterns.items c.args.count l.counter l.reader total c.loop-test.false l.invariant.told
