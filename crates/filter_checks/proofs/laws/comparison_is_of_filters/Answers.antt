use Rattle.filter_checks.proofs.Meant.{all_same, one_differs}
use Rattle.filter_checks.proofs.laws.comparison_is_of_filters.Goals as goal

pub returns-clause-same : goal.returns-clause-same
returns-clause-same c = all_same

pub returns-clause-differ : goal.returns-clause-differ
returns-clause-differ c = one_differs
