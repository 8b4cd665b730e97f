use Rattle.std.proofs.Common.{◌≡◌, ℕ, List, Option, inr, sym, ap, subst, ◌∙◌}
use Rattle.std.specs.Prelude.{IfErr, IfOk, Result}
use Rattle.filter_source.specs.declared.diagnosis.Diagnosis.{Diagnosis}
use Rattle.filter_reports.specs.Check.{AreLines, code_line}
use Rattle.filter_reports.specs.Checking.{EndsLines, EndsWith, IsDiagnosis, IsVerifiedSource, refusals_of, why_in}
use Rattle.filter_reports.specs.declared.check.SurveyedSource.{SurveyedSource}
use Rattle.filter_reports.proofs.Surveyed.{code_lines_end, refusal_ends, refused_survey, verified_survey, why_judged}
use Rattle.filter_reports.proofs.check.check_surveyed.Goals as goal

pub returns : goal.returns
returns c = λ size is_code source is.
    let found = c.args.surveyed in
    let verdict = found.survey.verdict in
    let text = c.in_ok-lines.lines.text.items in
    let why = c.in_ok-lines.lines.diagnosis in
    let ends = c.in_ok-lines.ensures.lines in
    let says = is.known.verdict in
    let given : why_in c.judged.result ≡ why = ap why_in c.judged.ensures ∙ why_judged found why in
    record {
      lines = subst (λ (w : Option Diagnosis). AreLines size is_code source (record { text = text; refusals = refusals_of w })) (sym given)
          (inr (found.code, is.gives, code_lines_end size found.code found.places.items verdict text why c.in_ok-lines.ensures.readable says ends));
      ends = subst (λ (w : Option Diagnosis). EndsWith w text) (sym given)
          (refusal_ends found.places.items (code_line found.code) verdict text why ends);
      diagnosed = subst (λ (v : Result SurveyedSource Diagnosis). IfErr v (IsDiagnosis size is_code source)) (sym c.judged.ensures)
          (refused_survey size is_code source found verdict (code_line found.code) text why is says ends);
      verified = subst (λ (v : Result SurveyedSource Diagnosis). IfOk v (IsVerifiedSource size is_code source)) (sym c.judged.ensures)
          (verified_survey size is_code source found verdict (code_line found.code) text why c.in_ok-lines.ensures.readable is says ends);
    }
