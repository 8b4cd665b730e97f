use Rattle.history_file.proofs.Chained.{one_end, one_legal}
use Rattle.history_file.proofs.laws.segments_are_one_history.Goals as goal

pub returns : goal.returns
returns c = record { legal = one_legal; ends = one_end }
