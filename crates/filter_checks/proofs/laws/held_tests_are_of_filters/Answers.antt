use Rattle.filter_checks.proofs.Meant.{held}
use Rattle.filter_checks.proofs.laws.held_tests_are_of_filters.Goals as goal

pub returns : goal.returns
returns c = held
