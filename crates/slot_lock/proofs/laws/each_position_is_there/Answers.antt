use Rattle.slot_lock.proofs.Counting.{as_many, each_there, each_within}
use Rattle.slot_lock.proofs.laws.each_position_is_there.Goals as goal

pub returns-clause-number : goal.returns-clause-number
returns-clause-number c = as_many

pub returns-clause-there : goal.returns-clause-there
returns-clause-there c = each_there

pub returns-clause-within : goal.returns-clause-within
returns-clause-within c = each_within
