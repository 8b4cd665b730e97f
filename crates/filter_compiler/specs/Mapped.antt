-- Instructions, and beside them the places in the text that they come from. (This project's own choice.)
use Rattle.std.specs.Prelude.{ℕ, List}
use Rattle.filter_code.specs.declared.instruction.Instr.{Instr}

pub record Mapped : Type 0 where
  pub instrs : List Instr
  pub places : List ℕ
