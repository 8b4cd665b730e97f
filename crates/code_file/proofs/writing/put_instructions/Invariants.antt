use Rattle.std.proofs.Common.{◌≡◌, ◌++◌, ◌<◌, ℕ, take, get_or}
use Rattle.std.specs.List.{flat_map}
use Rattle.code_file.specs.declared.version.Version.TheVariants.{Two}
use Rattle.code_file.specs.Spelling.{bytes_of, instruction, IsInstruction}
use Rattle.code_file.proofs.writing.put_instructions.Given as goal

abbrev pub invariant-loop-instr : goal.invariant-loop-instr
invariant-loop-instr l = record {
  written : l.out.items ≡ l.fn.out.items ++ flat_map (λ p. bytes_of (instruction Two p)) (take l.instr-index l.instrs);
  fits : (k : ℕ) (d : _) → k < l.instr-index → IsInstruction Two (get_or l.instrs k d);
}
