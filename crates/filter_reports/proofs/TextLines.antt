-- The printed code of a text is within the limit of a source.
use Rattle.std.proofs.Common.{◌≡◌, ℕ, ◌+◌, ◌*◌, ◌≤◌, true, false, List, [], ◌∷◌, ◌++◌, length, inl, inr, sym, subst, arith, length-append}
use Rattle.hex.proofs.HexLemmas.{length-encode_with}
use Rattle.hex.specs.Hex.{encode_lower, lower_digits}
use Rattle.code_file.specs.Spelling.{spelling, spelling_in}
use Rattle.code_file.specs.declared.version.Version.{Version}
use Rattle.code_file.specs.declared.version.Version.TheVariants as version
use Rattle.filter_code.specs.CodeView.{CodeView}
use Rattle.filter_syntax.specs.SyntaxText.{FilterView}
use Rattle.filter_compiler.specs.Translation.{code_of}
use Rattle.filter_source.specs.Sources.{Translates}
use Rattle.filter_reports.proofs.FileLength.{file_length}
use Rattle.filter_reports.proofs.TextFiles.{at_most}
use Rattle.filter_reports.proofs.TextMembers.{members_of_text}
use Rattle.filter_reports.proofs.Printed.{printed_again}
use Rattle.filter_reports.specs.Check.{FitsLine, GivesCode, AreCodeLines, AreLines, LinesView, printed}

-- the file of a translation has at most four times as many bytes as the text, and 6,409
pub file_of_text : (v : Version) (text : List ℕ) (filter : FilterView) (program : CodeView) → Translates text filter program
    → length (spelling_in v program) ≤ 4 * length text + 6409
file_of_text v text filter program h =
    let short : length (code_of filter).instrs ≤ 1024 = at_most 1024 (length (code_of filter).instrs) h.short in
    let sets : length (code_of filter).sets ≤ 64 = at_most 64 (length (code_of filter).sets) (λ many. h.few (inl (inl many))) in
    let ints : length (code_of filter).int_sets ≤ 64 = at_most 64 (length (code_of filter).int_sets) (λ many. h.few (inr (inl many))) in
    subst (λ (p : CodeView). length (spelling_in v p) ≤ 4 * length text + 6409) (sym h.code)
    (omega (arith, file_length v (code_of filter), members_of_text text filter h.spelled, short, sets, ints))

pub text_fits : (text : List ℕ) (filter : FilterView) (program : CodeView) → Translates text filter program → FitsLine program
text_fits text filter program h =
    omega (
      arith,
      file_of_text version.Two text filter program h,
      h.spelled.size,
      length-encode_with lower_digits (spelling program),
      length-append (encode_lower (spelling program)) (10 ∷ []),
    )

pub text_checked_alike : (size : ℕ) (text : List ℕ) (program : CodeView) (report : LinesView) → GivesCode false text program
    → AreCodeLines size program report → AreLines size true (printed program) report
text_checked_alike size text program report gives h =
    printed_again size program report (text_fits text gives.1.0 program gives.1.1) h
