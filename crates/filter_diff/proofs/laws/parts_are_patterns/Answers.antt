use Rattle.filter_diff.proofs.Witness.{as_pattern, has_route}
use Rattle.filter_diff.proofs.laws.parts_are_patterns.Goals as goal

pub returns-clause-some : goal.returns-clause-some
returns-clause-some c = has_route

pub returns-clause-pattern : goal.returns-clause-pattern
returns-clause-pattern c = as_pattern
