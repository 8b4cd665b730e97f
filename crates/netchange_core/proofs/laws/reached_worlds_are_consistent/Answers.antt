use Rattle.netchange_core.proofs.Reached.{next_consistent, opened_consistent}
use Rattle.netchange_core.proofs.laws.reached_worlds_are_consistent.Goals as goal

pub returns-clause-opened : goal.returns-clause-opened
returns-clause-opened c = opened_consistent

pub returns-clause-next : goal.returns-clause-next
returns-clause-next c = next_consistent
