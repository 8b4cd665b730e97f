-- The lines on what was read are written, or a front of them.
use Rattle.std.proofs.Common.{◌≡◌, ◌≤◌, ◌+◌, ℕ, List, length, sym, ap, ◌∙◌, subst, vec_len, arith}
use Rattle.std.specs.Io.KnownBytes.{Appends, IsAtEnd}
use Rattle.std.specs.Prelude.{Result}
use Rattle.filter_source.specs.Limits.{source_limit}
use Rattle.filter_source.specs.declared.diagnosis.Diagnosis.{Diagnosis}
use Rattle.filter_source.proofs.Refused.{of_error}
use Rattle.line_protocol.specs.Runs.{AppendsFront}
use Rattle.line_protocol.specs.declared.faults.StreamFault.{StreamFault}
use Rattle.filter_reports.proofs.WholeInput.{broken_off, finished}
use Rattle.filter_reports.specs.Check.{AreLines, LinesView}
use Rattle.filter_reports.specs.Checking.{IsCutOff, checked_lines, refusals_of, why_in}
use Rattle.filter_reports.specs.declared.check.SurveyedSource.{SurveyedSource}
use Rattle.filter_reports.specs.declared.fault.ProgramFault.TheVariants.{Stream}
use Rattle.filter_reports.proofs.check.check_text.Goals as goal

pub returns-in_err-write_text-clause-broken_off : goal.returns-in_err-write_text-clause-broken_off
returns-in_err-write_text-clause-broken_off g c =
    let left = g.R.Read.remaining c.read_input.new.reader in
    let held = g.W.Write.contents c.args.writer.now in
    let holds = g.W.Write.contents c.write_text.new.writer in
    let read = c.in_ok-input.ensures in
    let bytes = c.in_ok-input.input.items in
    let long : length bytes ≡ vec_len c.in_ok-input.input = ap length (sym c.as_slice.ensures.value) ∙ c.as_slice.ensures.len in
    let end : length bytes ≤ source_limit → IsAtEnd left = λ few. read.whole (omega (arith, few, long)) in
    let within : length bytes ≤ source_limit + 1 = let most = read.within in omega (arith, most, long) in
    let fault = c.in_err-write_text.field-0.0 in
    let lines : LinesView = checked_lines c.in_ok-checked.checked in
    let are : AreLines c.args.size c.args.is_code bytes lines =
    subst (λ (i : List ℕ). AreLines c.args.size c.args.is_code i lines) c.as_slice.ensures.value c.in_ok-checked.ensures.lines in
    let front : AppendsFront held holds lines.text =
    subst (λ (t : List ℕ). AppendsFront held holds t) c.as_slice-2.ensures.value c.in_err-write_text.ensures.err.1 in
    let cut : IsCutOff fault c.args.size c.args.is_code bytes held holds =
    subst (λ (f : StreamFault). IsCutOff f c.args.size c.args.is_code bytes held holds) (sym c.in_err-write_text.ensures.err.0) (lines, are, front) in
    of_error c.from_residual-in_err-write_text.result _ (Stream fault) c.from_residual-in_err-write_text.ensures.1
    (broken_off fault c.args.size c.args.is_code (g.R.Read.remaining c.args.reader.now) left held holds bytes read.read end within cut)

pub returns-in-Ok-clause-finished : goal.returns-in-Ok-clause-finished
returns-in-Ok-clause-finished g c =
    let left = g.R.Read.remaining c.read_input.new.reader in
    let held = g.W.Write.contents c.args.writer.now in
    let holds = g.W.Write.contents c.write_text.new.writer in
    let read = c.in_ok-input.ensures in
    let bytes = c.in_ok-input.input.items in
    let long : length bytes ≡ vec_len c.in_ok-input.input = ap length (sym c.as_slice.ensures.value) ∙ c.as_slice.ensures.len in
    let end : length bytes ≤ source_limit → IsAtEnd left = λ few. read.whole (omega (arith, few, long)) in
    let within : length bytes ≤ source_limit + 1 = let most = read.within in omega (arith, most, long) in
    let lines : LinesView = checked_lines c.in_ok-checked.checked in
    let are : AreLines c.args.size c.args.is_code bytes lines =
    subst (λ (i : List ℕ). AreLines c.args.size c.args.is_code i lines) c.as_slice.ensures.value c.in_ok-checked.ensures.lines in
    let written : Appends held holds lines.text =
    subst (λ (t : List ℕ). Appends held holds t) c.as_slice-2.ensures.value c.in_ok-write_text.ensures.ok in
    finished c.args.size c.args.is_code (g.R.Read.remaining c.args.reader.now) left held holds bytes lines 0 read.read end within are written
    (ap (λ (v : Result SurveyedSource Diagnosis). refusals_of (why_in v)) (sym c.in-Ok.is))

pub returns-clause-finished : goal.returns-clause-finished
returns-clause-finished g c =
    let left = g.R.Read.remaining c.read_input.new.reader in
    let held = g.W.Write.contents c.args.writer.now in
    let holds = g.W.Write.contents c.write_text.new.writer in
    let read = c.in_ok-input.ensures in
    let bytes = c.in_ok-input.input.items in
    let long : length bytes ≡ vec_len c.in_ok-input.input = ap length (sym c.as_slice.ensures.value) ∙ c.as_slice.ensures.len in
    let end : length bytes ≤ source_limit → IsAtEnd left = λ few. read.whole (omega (arith, few, long)) in
    let within : length bytes ≤ source_limit + 1 = let most = read.within in omega (arith, most, long) in
    let lines : LinesView = checked_lines c.in_ok-checked.checked in
    let are : AreLines c.args.size c.args.is_code bytes lines =
    subst (λ (i : List ℕ). AreLines c.args.size c.args.is_code i lines) c.as_slice.ensures.value c.in_ok-checked.ensures.lines in
    let written : Appends held holds lines.text =
    subst (λ (t : List ℕ). Appends held holds t) c.as_slice-2.ensures.value c.in_ok-write_text.ensures.ok in
    finished c.args.size c.args.is_code (g.R.Read.remaining c.args.reader.now) left held holds bytes lines 1 read.read end within are written
    (ap (λ (v : Result SurveyedSource Diagnosis). refusals_of (why_in v)) (sym c.in-Err.is))
