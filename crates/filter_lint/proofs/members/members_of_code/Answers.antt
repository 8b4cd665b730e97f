use Rattle.std.proofs.Common.{◌≡◌, IfOk, subst}
use Rattle.filter_lint.specs.Sets.{overlapping_members}
use Rattle.filter_lint.specs.SurveyedFilters.{SurveyedFilterView}
use Rattle.filter_lint.proofs.Hinted.{members_found}
use Rattle.filter_lint.proofs.members.members_of_code.Goals as goal

pub returns-clause-sound : goal.returns-clause-sound
returns-clause-sound c =
    members_found c.args.code.now c.args.size c.args.text.now c.args.places.now c.overlapping_members.result
    (subst (λ (source : SurveyedFilterView). IfOk c.overlapping_members.result (λ found. found.items ≡ overlapping_members source))
    c.new-source.ensures c.overlapping_members.ensures)
