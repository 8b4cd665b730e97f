-- The lines on what was read of an input are the lines on the input.
use Rattle.std.proofs.Common.{◌≡◌, ◌<◌, ◌≤◌, ◌+◌, ℕ, Bool, List, [], ◌++◌, length, Option, Some}
use Rattle.std.proofs.Common.{None, IfSome, inl, inr, sym, subst, ap, ◌∙◌, arith, length-append}
use Rattle.std.proofs.lemmas.Bool.{cases_lt}
use Rattle.std.proofs.lemmas.List.{append-nil}
use Rattle.std.specs.Io.KnownBytes.{Appends, Consumes, IsAtEnd}
use Rattle.line_protocol.specs.declared.faults.StreamFault.{StreamFault}
use Rattle.line_protocol.specs.declared.faults.StreamFault.TheVariants.{Read, Write, Memory, TooLong}
use Rattle.filter_source.specs.Limits.{source_limit}
use Rattle.filter_reports.specs.Check.{AreLines, LinesView}
use Rattle.filter_reports.specs.Checking.{Checks, ChecksOff, IsCutOff}

-- of an input that is longer than the limit, more than the limit was read
beyond : (size : ℕ) (is_code : Bool) (input left read : List ℕ) (lines : LinesView) → input ≡ read ++ left
    → source_limit < length read → AreLines size is_code read lines → AreLines size is_code input lines
beyond size is_code input left read lines e long (inl (why, inl (more, is), same)) =
    let all : length input ≡ length read + length left = ap length e ∙ length-append read left in
    let more : source_limit < length input = omega (arith, all, long) in
    inl (why, inl (more, is), same)
beyond size is_code input left read lines e long (inl (why, inr (few, is), same)) = absurd (omega (arith, few, long))
beyond size is_code input left read lines e long (inr (program, (few, is), same)) = absurd (omega (arith, few, long))

-- what a run has read
record HasRead (input left read : List ℕ) : Type 0 where
  all : input ≡ read ++ left
  to_end : length read ≤ source_limit → left ≡ []
  within : length read ≤ source_limit + 1

on_input : (size : ℕ) (is_code : Bool) (input left read : List ℕ) (lines : LinesView) → HasRead input left read
    → AreLines size is_code read lines → AreLines size is_code input lines
on_input size is_code input left read lines h r =
    elim (cases_lt source_limit (length read)) [
      | inl long ↦ beyond size is_code input left read lines h.all long r
      | inr few ↦ let whole : read ≡ input = sym (h.all ∙ ap (λ (l : List ℕ). read ++ l) (h.to_end few) ∙ append-nil read) in
          subst (λ (i : List ℕ). AreLines size is_code i lines) whole r
    ]

-- Where the lines were written, the run ends well.
pub finished : (size : ℕ) (is_code : Bool) (known left held holds : Option (List ℕ)) (read : List ℕ) (lines : LinesView) (n : ℕ)
    → Consumes known left read → (length read ≤ source_limit → IsAtEnd left) → length read ≤ source_limit + 1
    → AreLines size is_code read lines → Appends held holds lines.text → n ≡ lines.refusals
    → IfSome known (λ input. Checks size is_code input left held holds n)
finished size is_code None left held holds read lines n used end within r w e = tt
finished size is_code (Some input) None held holds read lines n used end within r w e = absurd used
finished size is_code (Some input) (Some left) held holds read lines n used end within r w e =
    let h : HasRead input left read = record { all = used; to_end = end; within = within } in
    let all : length input ≡ length read + length left = ap length used ∙ length-append read left in
    record {
      lines = lines;
      are_lines = on_input size is_code input left read lines h r;
      written = w;
      counted = e;
      read = read;
      consumed = used;
      within = within;
      to_end = λ few. ap (λ (l : List ℕ). Some l) (end (omega (arith, all, few)));
    }

-- What a fault cut of the lines on what was read is what it cut of those on the input.
cut_on_input : (fault : StreamFault) (size : ℕ) (is_code : Bool) (input left read : List ℕ) (held holds : Option (List ℕ))
    → HasRead input left read → IsCutOff fault size is_code read held holds → IsCutOff fault size is_code input held holds
cut_on_input Read size is_code input left read held holds h cut = cut
cut_on_input Write size is_code input left read held holds h (lines, r, w) = (lines, on_input size is_code input left read lines h r, w)
cut_on_input Memory size is_code input left read held holds h cut = cut
cut_on_input TooLong size is_code input left read held holds h cut = absurd cut

pub broken_off : (fault : StreamFault) (size : ℕ) (is_code : Bool) (known left held holds : Option (List ℕ)) (read : List ℕ)
    → Consumes known left read → (length read ≤ source_limit → IsAtEnd left) → length read ≤ source_limit + 1
    → IsCutOff fault size is_code read held holds → IfSome known (λ input. ChecksOff fault size is_code input left held holds)
broken_off fault size is_code None left held holds read used end within cut = tt
broken_off fault size is_code (Some input) None held holds read used end within cut = absurd used
broken_off fault size is_code (Some input) (Some left) held holds read used end within cut =
    let h : HasRead input left read = record { all = used; to_end = end; within = within } in
    record {
      written = cut_on_input fault size is_code input left read held holds h cut;
      read = read;
      consumed = used;
      within = within;
    }
