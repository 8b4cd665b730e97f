use Rattle.history_saver.proofs.Chaining.{all_told, has_told}
use Rattle.history_saver.proofs.laws.segments_tell_the_history.Goals as goal

pub returns : goal.returns
returns c = record { up_to = has_told; whole = all_told }
