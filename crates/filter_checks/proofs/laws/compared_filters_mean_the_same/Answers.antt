use Rattle.filter_checks.proofs.Meant.{codes_decided, filters_differ, filters_same}
use Rattle.filter_checks.proofs.laws.compared_filters_mean_the_same.Goals as goal

pub returns-clause-same : goal.returns-clause-same
returns-clause-same c = filters_same

pub returns-clause-differ : goal.returns-clause-differ
returns-clause-differ c = filters_differ

pub returns-clause-decided : goal.returns-clause-decided
returns-clause-decided c = codes_decided
