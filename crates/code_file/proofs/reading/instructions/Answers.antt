use Rattle.std.proofs.Common.{rules, inr}
use Rattle.std.proofs.lemmas.List.Elements.{All-push}
use Rattle.filter_code.specs.CodeView.{HasMask}
use Rattle.std.proofs.lemmas.Result.{err_from_is_err_and}
use Rattle.code_file.specs.Reading.{an_instruction, times, read}
use Rattle.code_file.proofs.Steps.{goes_on, stops, ends}
use Rattle.code_file.proofs.reading.instructions.Goals as goal

pub returns-in_err-instr-clause-value : goal.returns-in_err-instr-clause-value
returns-in_err-instr-clause-value c =
    let p = err_from_is_err_and c.from_residual-in_err-instr.result c.from_residual-in_err-instr.ensures.1 in
    let l = c.loop in
    let total = read (times c.args.count (an_instruction c.args.version)) c.args.reader.now in
    rw (p.1, p.2) (inr (stops (an_instruction c.args.version) l.instrs.items c.args.count l.counter l.reader c.in_err-instr.field-0.0 total
    c.loop-test.true c.in_err-instr.ensures.value l.invariant.told))

pub loop-preserved : goal.loop-preserved
loop-preserved c =
    let l = c.loop in
    let total = read (times c.args.count (an_instruction c.args.version)) c.args.reader.now in
    record {
      told = rw c.in_ok-push.ensures.items (goes_on (an_instruction c.args.version) l.instrs.items c.args.count l.counter l.reader
          c.instruction.new.self c.in_ok-instr.instr total c.loop-test.true c.in_ok-instr.ensures.value l.invariant.told);
      count = search rules;
      masks = rw c.in_ok-push.ensures.items
          (All-push HasMask l.instrs.items c.in_ok-instr.instr l.invariant.masks c.in_ok-instr.ensures.mask);
    }

pub returns-clause-value : goal.returns-clause-value
returns-clause-value c =
    let l = c.loop in
    let total = read (times c.args.count (an_instruction c.args.version)) c.args.reader.now in
    ends (an_instruction c.args.version) l.instrs.items c.args.count l.counter l.reader total c.loop-test.false l.invariant.told
