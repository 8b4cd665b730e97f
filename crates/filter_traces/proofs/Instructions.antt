-- An instruction of a code is at a place below the limit of instructions.
use Rattle.std.proofs.Common.{◌≡◌, ◌<◌, ◌≤◌, ℕ, List, Option, Some, None, IfSome, length, sym, arith}
use Rattle.std.specs.Prelude.{slice_get}
use Rattle.std.proofs.lemmas.Option.{slice_get_within}
use Rattle.filter_code.specs.Limits.{instruction_limit}
use Rattle.filter_code.specs.declared.instruction.Instr.{Instr}

pub instr_within : (instrs : List Instr) (at : ℕ) (found : Option Instr) → found ≡ slice_get instrs at → length instrs ≤ instruction_limit
    → IfSome found (λ _. at ≤ instruction_limit)
instr_within instrs at None is few = tt
instr_within instrs at (Some i) is few =
    let inside : at < length instrs = slice_get_within _ _ _ (sym is) in
    omega arith
