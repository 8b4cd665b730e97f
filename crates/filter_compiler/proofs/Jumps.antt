-- A jump that is written before the instructions that it passes over, and gets its distance after them.
use Rattle.std.proofs.Common.{◌≡◌, ℕ, ◌+◌, ◌-◌, ◌≤◌, min, true, List, [], ◌∷◌, ◌++◌, length, refl, sym, ap, subst, ◌∙◌, arith}
use Rattle.std.proofs.Common.{append_assoc, length-append}
use Rattle.std.specs.Prelude.{slice_set}
use Rattle.std.proofs.Math.Seq.{set-append_seam}
use Rattle.filter_code.specs.declared.instruction.Instr.{Instr}
use Rattle.filter_compiler.specs.declared.numbers.SetNumbers.{SetNumbers}
use Rattle.filter_compiler.specs.declared.output.Output.{Output}
use Rattle.filter_compiler.specs.Written.{Emits, TranslatedPart, Puts, Holds, patched}
use Rattle.filter_compiler.proofs.Within.{exchanged}

-- the distance among instructions that are kept, and the place
module _ (out : Output) (before rest : List Instr) (empty : Instr) (at : ℕ) (jump : ℕ → Instr) where
  patched_code : Holds out (before ++ empty ∷ rest) → min at 1025 ≡ min (length before) 1025 → out.kept ≡ true
      → slice_set out.mapped.instrs at (jump (out.length - at - 1)) ≡ before ++ jump (length rest) ∷ rest
  patched_code h is kept =
      let short : length (before ++ empty ∷ rest) ≤ 1024 = h.short kept in
      let all : length (before ++ empty ∷ rest) ≡ length before + (length rest + 1) = omega (arith, length-append before (empty ∷ rest)) in
      let place : at ≡ length before = omega arith in
      let counted = h.counted in
      let distance : out.length - at - 1 ≡ length rest = omega arith in
      ap (λ l. slice_set l at (jump (out.length - at - 1))) (h.instrs kept)
      ∙ (ap (λ n. slice_set (before ++ empty ∷ rest) n (jump (out.length - at - 1))) place
      ∙ (set-append_seam before empty rest (jump (out.length - at - 1)) ∙ ap (λ n. before ++ jump n ∷ rest) distance))

  pub patched_holds : Holds out (before ++ empty ∷ rest) → min at 1025 ≡ min (length before) 1025
      → Holds (patched out at (jump (out.length - at - 1))) (before ++ jump (length rest) ∷ rest)
  patched_holds h is =
      let same : length (before ++ empty ∷ rest) ≡ length (before ++ jump (length rest) ∷ rest) =
      omega (arith, length-append before (empty ∷ rest), length-append before (jump (length rest) ∷ rest)) in
      exchanged out (patched out at (jump (out.length - at - 1))) _ _ refl refl same (patched_code h is) h

-- a jump over a part
abbrev pub jump_over : (ℕ → Instr) → TranslatedPart → TranslatedPart
jump_over jump p = record { code = λ n. jump (length (p.code n)) ∷ p.code n; sets = p.sets }

over_code : {a b c d : Output} {empty : Instr} {code : List Instr} {distance : ℕ} (jump : ℕ → Instr) → Puts a b (empty ∷ []) → Puts b c code
    → distance ≡ c.length - a.length - 1 → d ≡ patched c a.length (jump distance) → Puts a d (jump (length code) ∷ code)
over_code {a} {b} {c} {d} {empty} {code} {distance} jump first second far is = record {
  holds = λ before h.
      let h2 = second.holds _ (first.holds before h) in
      subst (λ o. Holds o (before ++ jump (length code) ∷ code)) (sym (is ∙ ap (λ n. patched c a.length (jump n)) far))
      (patched_holds c before code empty a.length jump (subst (Holds c) (append_assoc before (empty ∷ []) code) h2) h.counted);
}

pub over : {a b c d : Output} {k l : SetNumbers} {empty : Instr} {p : TranslatedPart} {distance : ℕ} (jump : ℕ → Instr) → Puts a b (empty ∷ [])
    → Emits b c k l p → distance ≡ c.length - a.length - 1 → d ≡ patched c a.length (jump distance) → Emits a d k l (jump_over jump p)
over jump first second far is = record { puts = λ n counted. over_code jump first (second.puts n counted) far is; counts = second.counts }
