use Rattle.std.proofs.Common.{rules, inl, inr}
use Rattle.std.proofs.lemmas.Result.{err_from_is_err_and}
use Rattle.code_file.specs.Reading.{an_int_set, times, read}
use Rattle.code_file.proofs.Steps.{goes_on, stops, ends}
use Rattle.code_file.proofs.reading.int_sets.Goals as goal

pub returns-in_err-set-clause-value : goal.returns-in_err-set-clause-value
returns-in_err-set-clause-value c =
    let p = err_from_is_err_and c.from_residual-in_err-set.result c.from_residual-in_err-set.ensures.1 in
    let l = c.loop in
    let total = read (times c.args.count an_int_set) c.args.reader.now in
    rw (p.1, p.2) (elim c.in_err-set.ensures [
      | inl none ↦ inl none
      | inr met ↦ inr (stops an_int_set l.sets.items c.args.count l.counter l.reader c.in_err-set.field-0.0 total
          c.loop-test.true met l.invariant.told)
    ])

pub loop-preserved : goal.loop-preserved
loop-preserved c =
    let l = c.loop in
    let total = read (times c.args.count an_int_set) c.args.reader.now in
    record {
      told = rw c.in_ok-push.ensures.items (goes_on an_int_set l.sets.items c.args.count l.counter l.reader c.int_set.new.reader c.in_ok-set.set
          total c.loop-test.true c.in_ok-set.ensures l.invariant.told);
      count = search rules;
    }

pub returns-clause-value : goal.returns-clause-value
returns-clause-value c =
    let l = c.loop in
    let total = read (times c.args.count an_int_set) c.args.reader.now in
    ends an_int_set l.sets.items c.args.count l.counter l.reader total c.loop-test.false l.invariant.told
