-- The line that is cut is that of the fault.
use Rattle.std.proofs.Common.{◌≡◌, ℕ, List, IfErr, refl, subst, ◌∙◌}
use Rattle.filter_reports.specs.Cuts.{IsCut}
use Rattle.filter_reports.specs.Faults.{stream_fault}
use Rattle.program_console.proofs.Unreported.{none_appended}
use Rattle.ncroute.proofs.routing.end_by_words.Goals as goal

pub returns-in-Ok-clause-cut : goal.returns-in-Ok-clause-cut
returns-in-Ok-clause-cut g c =
    let stderr_before = g.E.Write.contents c.args.errors.now in
    let stderr_after = g.E.Write.contents c.end_by_line.new.errors in
    subst (λ (line : List ℕ). IfErr c.end_by_line.result (λ unreported. (unreported.status ≡ 2) × IsCut (stream_fault unreported.why) stderr_before stderr_after line))
    (c.as_slice.ensures.value ∙ c.in-Ok.ensures) c.end_by_line.ensures.cut

pub returns-in-Err-clause-cut : goal.returns-in-Err-clause-cut
returns-in-Err-clause-cut g c = (refl, none_appended (g.E.Write.contents c.args.errors.now))
