use Rattle.history_file.proofs.Whole.{one_history, only_memory}
use Rattle.history_file.proofs.laws.one_history.Goals as goal

pub returns : goal.returns
returns c = record { one = one_history; faultless = only_memory }
