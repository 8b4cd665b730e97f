use Rattle.slot_lock.proofs.Counting.{apart}
use Rattle.slot_lock.proofs.laws.none_is_twice.Goals as goal

pub returns : goal.returns
returns c = λ x j k xs none_twice. apart x j k xs (none_twice x)
