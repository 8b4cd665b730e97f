use Rattle.filter_checks.proofs.Meant.{shown_is_of, shown_otherwise, shown_verdict}
use Rattle.filter_checks.proofs.laws.shown_routes_are_of_filters.Goals as goal

pub returns-clause-covered : goal.returns-clause-covered
returns-clause-covered c = shown_is_of

pub returns-clause-verdict : goal.returns-clause-verdict
returns-clause-verdict c = shown_verdict

pub returns-clause-otherwise : goal.returns-clause-otherwise
returns-clause-otherwise c = shown_otherwise
