use Rattle.std.proofs.Common.{ℕ, List, subst}
use Rattle.filter_reports.specs.Checking.{EndsLines}
use Rattle.filter_reports.proofs.check.lines_on.Goals as goal

pub returns-clause-lines : goal.returns-clause-lines
returns-clause-lines c =
    let found = c.args.surveyed.now in
    let lines = c.in_ok-lines.lines in
    subst (λ (front : List ℕ). EndsLines found.places.items found.survey.verdict front lines.text.items lines.diagnosis) c.in_ok-line.ensures.line
    (subst (λ (places : List ℕ). EndsLines places found.survey.verdict c.in_ok-line.line.items lines.text.items lines.diagnosis) c.as_slice.ensures.value
    c.in_ok-lines.ensures)
