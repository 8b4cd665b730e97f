-- The hexadecimal of a code's file, as `check` prints it, is read by `eval` as that code.
use Rattle.std.proofs.Common.{◌≡◌, ℕ, ◌+◌, ◌-◌, ◌<◌, Bool, true, false, List, [], ◌∷◌, ◌++◌, Result, Ok, Err}
use Rattle.std.proofs.Common.{length, take, drop, nat_lt, if◌then◌else◌, refl, ap, ◌∙◌, arith, length-append}
use Rattle.std.proofs.lemmas.Bool.Decides.{nat_tests}
use Rattle.std.proofs.Math.Seq.{take_all}
use Rattle.std.proofs.lemmas.List.Sums.{prefix_len_is, suffix_len_is}
use Rattle.std.specs.List.{prefix_len, suffix_len}
use Rattle.hex.specs.Hex.{encode_lower}
use Rattle.code_file.specs.Spelling.{IsCode, spelling}
use Rattle.filter_code.specs.CodeView.{CodeView}
use Rattle.filter_source.specs.Limits.{source_limit}
use Rattle.filter_source.specs.Sources.{code_in_hexadecimal}
use Rattle.filter_source.specs.declared.refusal.Refusal.{Refusal}
use Rattle.filter_source.specs.declared.refusal.Refusal.TheVariants.{TooLong}
use Rattle.line_protocol.specs.Words as words
use Rattle.filter_reports.proofs.Printed.{digits_again, none_in}
use Rattle.filter_reports.specs.Check.{FitsLine, printed}
use Rattle.route_answers.specs.Eval.{code_in}

-- digits have no blanks at either end
trimmed_both : (bytes : List ℕ) → words.trimmed (encode_lower bytes) ≡ encode_lower bytes
trimmed_both bytes =
    let text = encode_lower bytes in
    let front : prefix_len words.is_blank text ≡ 0 =
    prefix_len_is words.is_blank text 0 0 (omega arith) (λ k below. absurd (omega arith))
    (λ some. none_in words.is_blank refl refl bytes 0)
    in
    let end : suffix_len words.is_blank text ≡ length text - length text =
    suffix_len_is words.is_blank text (length text) 0 (omega arith) (λ k from below. absurd (omega arith))
    (λ some. none_in words.is_blank refl refl bytes (length text - 1))
    in
    let kept : length text - suffix_len words.is_blank text ≡ length text = omega (arith, end) in
    ap (λ (n : ℕ). words.without_end_blanks (drop n text)) front
    ∙ ap (λ (n : ℕ). take n text) kept ∙ take_all (length text) text (omega arith)

-- what `check` prints of a code, read by `eval`, is that code
pub line_again : (program : CodeView) → FitsLine program → IsCode program → code_in (encode_lower (spelling program)) ≡ Ok program
line_again program few h =
    let digits = encode_lower (spelling program) in
    let all : length (printed program) ≡ length digits + 1 = length-append digits (10 ∷ []) in
    let within : nat_lt source_limit (length digits) ≡ false = grind (arith, nat_tests) in
    let read : Bool → Result CodeView Refusal = λ b. if b then Err TooLong else code_in_hexadecimal (words.trimmed digits) in
    ap read within ∙ ap code_in_hexadecimal (trimmed_both (spelling program)) ∙ digits_again program h
