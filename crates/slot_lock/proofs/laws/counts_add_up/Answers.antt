use Rattle.lock_rule.proofs.Keeping.{times_append}
use Rattle.slot_lock.proofs.laws.counts_add_up.Goals as goal

pub returns : goal.returns
returns c = times_append
