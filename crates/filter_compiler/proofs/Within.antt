-- The limit of what was put into an output.
use Rattle.std.proofs.Common.{◌≡◌, ◌≤◌, min, true, List, length, sym, ap, subst, ◌∙◌}
use Rattle.filter_code.specs.declared.instruction.Instr.{Instr}
use Rattle.filter_compiler.specs.declared.output.Output.{Output}
use Rattle.filter_compiler.specs.Written.{Holds}

-- other instructions in an output that has counted as many
module _ (old new : Output) (x y : List Instr) (counted : new.length ≡ old.length) (same_kept : new.kept ≡ old.kept)
    (same_length : length x ≡ length y) where
  pub exchanged : (new.kept ≡ true → new.mapped.instrs ≡ y) → Holds old x → Holds new y
  exchanged instrs h = record {
    counted = ap (λ n. min n 1025) counted ∙ (h.counted ∙ ap (λ n. min n 1025) same_length);
    short = λ kept. subst (λ n. n ≤ 1024) same_length (h.short (sym same_kept ∙ kept));
    instrs = instrs;
  }
