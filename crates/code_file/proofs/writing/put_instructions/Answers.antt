use Rattle.code_file.specs.declared.version.Version.TheVariants.{Two}
use Rattle.code_file.specs.Spelling.{bytes_of, instruction, IsInstruction}
use Rattle.code_file.proofs.Written.{grown, all_grown}
use Rattle.code_file.proofs.writing.put_instructions.Goals as goal

pub loop-instr-preserved : goal.loop-instr-preserved
loop-instr-preserved c = record {
  written = grown (λ i. bytes_of (instruction Two i)) c.args.out.now.items c.loop-instr.out.items c.put_instruction.new.out.items
      c.args.instrs.now c.loop-instr.instr-index c.instr-item.result c.loop-instr-test.true c.instr-item.is
      c.loop-instr.invariant.written c.in_ok-put_instruction.ensures.written;
  fits = all_grown (IsInstruction Two) c.args.instrs.now c.loop-instr.instr-index c.instr-item.result c.loop-instr-test.true
      c.instr-item.is c.in_ok-put_instruction.ensures.fits c.loop-instr.invariant.fits;
}
