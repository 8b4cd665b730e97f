use Rattle.filter_checks.proofs.Meant.{of_filters}
use Rattle.filter_checks.proofs.laws.parts_are_of_filters.Goals as goal

pub returns : goal.returns
returns c = of_filters
