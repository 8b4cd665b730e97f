use Rattle.history_file.proofs.Told.{one_state}
use Rattle.history_file.proofs.laws.one_state.Goals as goal

pub returns : goal.returns
returns c = one_state
