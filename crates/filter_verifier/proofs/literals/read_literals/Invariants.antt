-- What was read carries what fits.
use Rattle.std.proofs.Common.{ℕ, ◌<◌, slice_index_or}
use Rattle.filter_code.specs.declared.instruction.Instr.{Instr}
use Rattle.filter_verifier.specs.Safe.{HasLiteral}
use Rattle.filter_verifier.proofs.literals.read_literals.Given as goal

abbrev pub invariant-loop-instr : goal.invariant-loop-instr
invariant-loop-instr l = (k : ℕ) → k < l.instr-index → (other : Instr) → HasLiteral (slice_index_or l.instrs k other)
