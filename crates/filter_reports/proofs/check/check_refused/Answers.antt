use Rattle.std.proofs.Common.{◌≡◌, List, Option, Some, inl, sym, ap, subst, ◌∙◌}
use Rattle.filter_source.specs.declared.diagnosis.Diagnosis.{Diagnosis}
use Rattle.filter_reports.specs.Check.{LinesView}
use Rattle.filter_reports.specs.Checking.{EndsWith, refusals_of}
use Rattle.filter_reports.proofs.check.check_refused.Goals as goal

pub returns : goal.returns
returns c = λ size is_code source refused tells.
    let text = c.in_ok-lines.lines.text.items in
    let counted : Option Diagnosis → LinesView = λ w. record { text = text; refusals = refusals_of w } in
    record {
      lines = inl (c.args.diagnosis.now.refusal, refused, ap counted (sym c.in_ok-lines.ensures.diagnosis) ∙ c.in_ok-lines.ensures.text);
      ends = subst (λ (w : Option Diagnosis). EndsWith w text) c.in_ok-lines.ensures.diagnosis c.in_ok-lines.ensures.ends;
      diagnosed = inl (refused, tells);
      verified = tt;
    }
