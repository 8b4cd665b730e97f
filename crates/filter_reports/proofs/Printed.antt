-- The hexadecimal of a code's file, as `check` prints it, gives the code back.
use Rattle.std.proofs.Common.{◌≡◌, ℕ, zero, suc, ◌+◌, ◌-◌, ◌/◌, ◌%◌, ◌<◌, Bool, true, false, not, List, [], ◌∷◌, ◌++◌}
use Rattle.std.proofs.Common.{Ok, length, take, slice_index, get_or, inr, refl, ap, ◌∙◌, arith, length-append}
use Rattle.std.proofs.Math.ListN.{get_or-append}
use Rattle.std.proofs.Math.Seq.{get_or-append_seam, take_all}
use Rattle.std.proofs.lemmas.List.{take-append-le}
use Rattle.std.proofs.lemmas.List.Sums.{suffix_len_is}
use Rattle.std.specs.List.{list_all, suffix_len}
use Rattle.hex.proofs.HexLemmas.{decode_of-encode_lower}
use Rattle.hex.specs.Hex.{encode_lower, encode_with, lower_digits}
use Rattle.code_file.proofs.FileBytes.{a_file}
use Rattle.code_file.proofs.Grammar.{file_of_spelling}
use Rattle.code_file.specs.Spelling.{IsCode, spelling}
use Rattle.filter_code.specs.CodeView.{CodeView}
use Rattle.filter_source.specs.Sources.{code_in_bytes, code_in_hexadecimal, code_or_fault}
use Rattle.filter_tokens.specs.Tokenization as gaps
use Rattle.filter_reports.specs.Check.{FitsLine, AreCodeLines, AreLines, LinesView, printed, without_white_end}

-- no byte of a text of hexadecimal digits has what no digit has
module _ (p : ℕ → Bool) (digits : list_all (λ x. not (p x)) lower_digits ≡ true) (outside : p 0 ≡ false) where
  no_digit : (t : List ℕ) → list_all (λ x. not (p x)) t ≡ true → (d : ℕ) → p (slice_index t d) ≡ false
  no_digit [] h d = outside
  no_digit (x ∷ xs) h zero = grind arith
  no_digit (x ∷ xs) h (suc d) = no_digit xs (grind arith) d

  pub none_in : (bytes : List ℕ) (k : ℕ) → p (slice_index (encode_lower bytes) k) ≡ false
  unfolding encode_with
  none_in [] k = outside
  none_in (b ∷ rest) zero = no_digit lower_digits digits (b / 16)
  none_in (b ∷ rest) (suc zero) = no_digit lower_digits digits (b % 16)
  none_in (b ∷ rest) (suc (suc k)) = none_in rest k

-- a line end after digits is all that is dropped
trimmed_end : (bytes : List ℕ) → without_white_end (encode_lower bytes ++ 10 ∷ []) ≡ encode_lower bytes
trimmed_end bytes =
    let text = encode_lower bytes in
    let all : length (text ++ 10 ∷ []) ≡ length text + 1 = length-append text (10 ∷ []) in
    let white : suffix_len gaps.is_space (text ++ 10 ∷ []) ≡ length (text ++ 10 ∷ []) - length text =
    suffix_len_is gaps.is_space (text ++ 10 ∷ []) (length text) 0 (omega arith)
    (λ k from below. let at : k ≡ length text = omega arith in ap (λ (j : ℕ). gaps.is_space (get_or (text ++ 10 ∷ []) j 0)) at
    ∙ ap gaps.is_space (get_or-append_seam text 10 [] 0))
    (λ some. let lt : length text - 1 < length text = omega arith in ap gaps.is_space (get_or-append text (10 ∷ []) 0 (length text - 1) lt)
    ∙ none_in gaps.is_space refl refl bytes (length text - 1))
    in
    let kept : length (text ++ 10 ∷ []) - suffix_len gaps.is_space (text ++ 10 ∷ []) ≡ length text = omega (arith, white, all) in
    ap (λ (n : ℕ). take n (text ++ 10 ∷ [])) kept ∙ take-append-le (length text) text (10 ∷ []) (omega arith)
    ∙ take_all (length text) text (omega arith)

-- the digits of a code's file are read as that code
pub digits_again : (program : CodeView) → IsCode program → code_in_hexadecimal (encode_lower (spelling program)) ≡ Ok program
digits_again program h = ap code_in_bytes (decode_of-encode_lower (spelling program) (a_file program h).each)
    ∙ ap code_or_fault (file_of_spelling program h)

-- what `check` prints of a code, read by `check --code`, has the report on that code
pub printed_again : (size : ℕ) (program : CodeView) (report : LinesView) → FitsLine program → AreCodeLines size program report
    → AreLines size true (printed program) report
printed_again size program report within h =
    inr (program, (within, ap code_in_hexadecimal (trimmed_end (spelling program)) ∙ digits_again program h.is_code), h)
